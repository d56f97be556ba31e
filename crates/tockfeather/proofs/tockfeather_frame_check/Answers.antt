-- `tockfeather::tockfeather_frame_check` meets its contract. Assumes nothing.
use Rattle.tockfeather.proofs.Laws.{yes_1, no_0}
use Rattle.tockfeather.proofs.tockfeather_frame_check.Goals as goal

pub returns-then-check_right : goal.returns-then-check_right
returns-then-check_right c = yes_1 _ _ c.check_right.ensures c.if-check_right.true

pub returns-else-check_right : goal.returns-else-check_right
returns-else-check_right c = no_0 _ _ c.check_right.ensures c.if-check_right.false
