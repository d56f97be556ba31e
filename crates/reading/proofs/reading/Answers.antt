use Rattle.reading.proofs.Laws.{reading_refused, reading_is, shown_long}
use Rattle.reading.proofs.reading.Goals as goal

pub returns-then-is_err : goal.returns-then-is_err
returns-then-is_err c = search reading_refused

pub overflow_sub-n : goal.overflow_sub-n
overflow_sub-n c = search shown_long

pub returns : goal.returns
returns c = search reading_is
