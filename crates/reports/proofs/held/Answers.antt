-- `reports::held` meets its contract. Assumes nothing.
use Rattle.reports.proofs.Laws.{held_is}
use Rattle.reports.proofs.held.Goals as goal

pub returns : goal.returns
returns c = search held_is
