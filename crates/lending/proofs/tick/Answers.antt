use Rattle.lending.proofs.Laws.{tick_made}
use Rattle.lending.proofs.tick.Goals as goal

pub returns : goal.returns
returns c = search tick_made
