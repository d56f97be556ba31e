use Rattle.board.proofs.Laws.{called_is}
use Rattle.board.proofs.called.Goals as goal

pub returns : goal.returns
returns c = search called_is
