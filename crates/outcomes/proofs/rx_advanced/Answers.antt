use Rattle.outcomes.proofs.Laws.{rx_moves, rx_ends}
use Rattle.outcomes.proofs.rx_advanced.Goals as goal

pub returns-then-linked : goal.returns-then-linked
returns-then-linked c = search rx_moves

pub returns-else-linked : goal.returns-else-linked
returns-else-linked c = search rx_ends
