-- `replies::said` meets its contract. Assumes nothing.
use Rattle.replies.proofs.Laws.{said_is}
use Rattle.replies.proofs.said.Goals as goal

pub returns : goal.returns
returns c = search said_is
