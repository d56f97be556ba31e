use Rattle.day_reports.proofs.Laws.{counted_is}
use Rattle.day_reports.proofs.counted.Goals as goal

pub returns : goal.returns
returns c = search counted_is
