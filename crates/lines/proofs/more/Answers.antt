-- `lines::more` meets its contract. Assumes nothing but what the library says of a read.
use Rattle.lines.proofs.Laws.{more_ended, more_over, more_refilled}
use Rattle.lines.proofs.more.Goals as goal

pub returns-then-is_some : goal.returns-then-is_some
returns-then-is_some g c = search more_ended

pub returns-then-to-eq0 : goal.returns-then-to-eq0
returns-then-to-eq0 g c = search more_over

pub returns : goal.returns
returns g c = search more_refilled
