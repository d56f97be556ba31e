-- `console::reset` meets its contract. Assumes nothing.
use Rattle.console.proofs.Laws.{reset_is}
use Rattle.console.proofs.reset.Goals as goal

pub returns : goal.returns
returns c = search reset_is
