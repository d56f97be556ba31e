-- `long_reports::engines` meets its contract. Assumes nothing.
use Rattle.long_reports.proofs.Laws.{engines_is}
use Rattle.long_reports.proofs.engines.Goals as goal

pub returns : goal.returns
returns c = search engines_is
