-- `long_reports::counts` meets its contract. Assumes nothing.
use Rattle.long_reports.proofs.Laws.{counts_is}
use Rattle.long_reports.proofs.counts.Goals as goal

pub returns : goal.returns
returns c = search counts_is
