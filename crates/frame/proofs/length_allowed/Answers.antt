-- `frame::length_allowed` meets its contract. Assumes nothing.
use Rattle.frame.proofs.Exits.{from_64, under_64}
use Rattle.frame.proofs.length_allowed.Goals as goal

pub returns-then-n-ge64 : goal.returns-then-n-ge64
returns-then-n-ge64 c = from_64 _ c.if-n-ge64.true

pub returns-else-n-ge64 : goal.returns-else-n-ge64
returns-else-n-ge64 c = under_64 _ c.if-n-ge64.false
