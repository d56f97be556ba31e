use Rattle.day_reports.proofs.Laws.{placed_is}
use Rattle.day_reports.proofs.placed.Goals as goal

pub returns : goal.returns
returns c = search placed_is
