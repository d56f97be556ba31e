use Rattle.board.proofs.Laws.{reset_both}
use Rattle.board.proofs.reset.Goals as goal

pub returns : goal.returns
returns c = search reset_both
