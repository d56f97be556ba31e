-- `asking::told` meets its contract. Assumes nothing.
use Rattle.asking.proofs.Laws.{told_is}
use Rattle.asking.proofs.told.Goals as goal

pub returns : goal.returns
returns c = search told_is
