use Rattle.recording.proofs.ByteLaws.{frame_appended}
use Rattle.recording.proofs.events.frame.Goals as goal

pub returns : goal.returns
returns c = search frame_appended
