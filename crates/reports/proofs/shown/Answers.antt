-- `reports::shown` meets its contract. Assumes nothing.
use Rattle.reports.proofs.Laws.{shown_is}
use Rattle.reports.proofs.shown.Goals as goal

pub returns : goal.returns
returns c = search shown_is
