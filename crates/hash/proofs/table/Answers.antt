-- `hash::table` meets its contract. Assumes nothing.
use Rattle.hash.proofs.Laws.{table_high, table_low}
use Rattle.hash.proofs.table.Goals as goal

pub returns-then-index-eq1 : goal.returns-then-index-eq1
returns-then-index-eq1 c = search table_high

pub returns-else-index-eq1 : goal.returns-else-index-eq1
returns-else-index-eq1 c = search table_low
