-- `burst_speed::speed_burst` meets its contract. Assumes nothing.
use Rattle.burst_speed.proofs.Laws.{burst_gave}
use Rattle.burst_speed.proofs.speed_burst.Goals as goal

pub returns : goal.returns
returns c = search burst_gave
