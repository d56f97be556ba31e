use Rattle.outcomes.proofs.Laws.{tx_moves, tx_ends}
use Rattle.outcomes.proofs.tx_advanced.Goals as goal

pub returns-then-linked : goal.returns-then-linked
returns-then-linked c = search tx_moves

pub returns-else-linked : goal.returns-else-linked
returns-else-linked c = search tx_ends
