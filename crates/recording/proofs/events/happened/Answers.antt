use Rattle.recording.proofs.ByteLaws.{happened_past, happened_there}
use Rattle.recording.proofs.events.happened.Goals as goal

pub returns-then-end-eq0 : goal.returns-then-end-eq0
returns-then-end-eq0 c = search happened_past

pub returns : goal.returns
returns c = search happened_there
