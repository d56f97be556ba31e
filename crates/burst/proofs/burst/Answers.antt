-- `burst::burst` meets its contract. Assumes nothing.
use Rattle.burst.proofs.Laws.{burst_uneven, burst_refused, burst_done}
use Rattle.burst.proofs.burst.Goals as goal

pub returns-then-lengths-starts : goal.returns-then-lengths-starts
returns-then-lengths-starts c = search burst_uneven

pub returns-then-refuses : goal.returns-then-refuses
returns-then-refuses c = search burst_refused

pub returns : goal.returns
returns c = search burst_done
