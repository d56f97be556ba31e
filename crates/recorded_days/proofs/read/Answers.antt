use Rattle.recorded_days.proofs.Laws.{too_long, whole_file}
use Rattle.recorded_days.proofs.read.Goals as goal

pub returns-then-loaded : goal.returns-then-loaded
returns-then-loaded c = search too_long

pub returns : goal.returns
returns c = search whole_file
