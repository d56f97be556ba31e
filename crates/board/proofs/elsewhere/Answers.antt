use Rattle.board.proofs.Laws.{elsewhere_is}
use Rattle.board.proofs.elsewhere.Goals as goal

pub returns : goal.returns
returns c = search elsewhere_is
