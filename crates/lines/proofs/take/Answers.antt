-- `lines::take` meets its contract. Assumes nothing.
use Rattle.lines.proofs.Laws.{feed_at, feed_behind, part_ends, part_goes_on}
use Rattle.lines.proofs.take.Goals as goal

pub overflow_add-result : goal.overflow_add-result
overflow_add-result c = search feed_at

pub overflow_add-result-then-n-left : goal.overflow_add-result-then-n-left
overflow_add-result-then-n-left c = search feed_behind

pub returns-then-n-left : goal.returns-then-n-left
returns-then-n-left c = search part_ends

pub returns : goal.returns
returns c = search part_goes_on
