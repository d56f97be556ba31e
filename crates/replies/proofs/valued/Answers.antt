-- `replies::valued` meets its contract. Assumes nothing.
use Rattle.replies.proofs.Laws.{valued_is}
use Rattle.replies.proofs.valued.Goals as goal

pub returns : goal.returns
returns c = search valued_is
