use Rattle.timing.proofs.Laws.{waiting_is}
use Rattle.timing.proofs.waiting.Goals as goal

pub returns : goal.returns
returns c = search waiting_is
