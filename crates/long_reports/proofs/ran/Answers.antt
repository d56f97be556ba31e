-- `long_reports::ran` meets its contract. Assumes nothing.
use Rattle.long_reports.proofs.Laws.{ran_is}
use Rattle.long_reports.proofs.ran.Goals as goal

pub returns : goal.returns
returns c = search ran_is
