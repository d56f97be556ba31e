use Rattle.capturing.proofs.Turns.{all_captured}
use Rattle.capturing.proofs.capture.Goals as goal

pub returns : goal.returns
returns c = all_captured _ _ _ _ _ _ _ _ c.new-made.ensures c.all.ensures
