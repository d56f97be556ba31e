use Prim.Native.Nat.{◌-◌}
use lib.ListN.{length}
use Rattle.event.proofs.Laws.{Walking}
use Rattle.event.proofs.walk.Given as goal

abbrev pub invariant-loop-n : goal.invariant-loop-n
invariant-loop-n l = Walking l.list l.place l.events l.n

abbrev pub decreases-loop-n : goal.decreases-loop-n
decreases-loop-n l = length l.list - l.place
