-- `hash::accepts` meets its contract. Assumes nothing.
use Rattle.hash.proofs.Laws.{selected}
use Rattle.hash.proofs.accepts.Goals as goal

pub returns : goal.returns
returns c = search selected
