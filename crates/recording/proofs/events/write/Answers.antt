use Rattle.recording.proofs.ByteLaws.{appended}
use Rattle.recording.proofs.events.write.Goals as goal

pub returns : goal.returns
returns c = search appended
