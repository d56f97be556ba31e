-- `replies::numbered` meets its contract. Assumes nothing.
use Rattle.replies.proofs.Laws.{numbered_is}
use Rattle.replies.proofs.numbered.Goals as goal

pub returns : goal.returns
returns c = search numbered_is
