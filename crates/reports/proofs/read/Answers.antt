-- `reports::read` meets its contract. Assumes nothing.
use Rattle.reports.proofs.Laws.{read_is}
use Rattle.reports.proofs.read.Goals as goal

pub returns : goal.returns
returns c = search read_is
