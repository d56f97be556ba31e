-- `words::spaced` meets its contract. Assumes nothing.
use Rattle.words.proofs.Laws.{spaced_is}
use Rattle.words.proofs.spaced.Goals as goal

pub returns : goal.returns
returns c = search spaced_is
