-- `trace::walk_in` meets its contract. The loop's invariant: so many events lie before this place, and the one here has n bytes.
-- Assumes nothing.
use Prim.Native.Nat.{◌-◌}
use Rattle.stream.specs.Stream.{stream, events_of}
use Rattle.event.proofs.Laws.{Walking}
use Rattle.trace.proofs.walk_in.Given as goal

abbrev pub invariant-loop-n : goal.invariant-loop-n
invariant-loop-n l = Walking (events_of (stream l.trace l.good)) l.place l.events l.n

abbrev pub decreases-loop-n : goal.decreases-loop-n
decreases-loop-n l = l.end - l.place
