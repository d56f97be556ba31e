use Rattle.recording.proofs.DayLaws.{counted_is}
use Rattle.recording.proofs.counted.Goals as goal

pub returns : goal.returns
returns c = search counted_is
