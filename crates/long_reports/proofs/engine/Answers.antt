-- `long_reports::engine` meets its contract. Assumes nothing.
use Rattle.long_reports.proofs.Laws.{engine_is}
use Rattle.long_reports.proofs.engine.Goals as goal

pub returns : goal.returns
returns c = search engine_is
