-- `playback::play` meets its contract. The loop's invariant: the events from here on give what all of them give from the start.
-- Assumes nothing.
use mathlib.Core.Path.{◌≡◌}
use Prim.Native.Nat.{◌-◌, ◌^◌, ◌<◌}
use lib.ListN.{length}
use Rattle.playback.specs.Playing.{played}
use Rattle.playback.proofs.Turns.{Playing}
use Rattle.playback.proofs.play.Given as goal

abbrev pub invariant-loop-n : goal.invariant-loop-n
invariant-loop-n l =
    Playing (played l.initial.last l.initial.memory l.initial.output l.initial.answers) l.list l.place l.i l.n (played l.last l.memory l.output l.answers)
    × ((length l.list < 2 ^ 64)
    × ((length l.memory ≡ length l.initial.memory) × ((length l.output ≡ length l.initial.output) × (length l.answers ≡ length l.initial.answers))))

abbrev pub decreases-loop-n : goal.decreases-loop-n
decreases-loop-n l = length l.list - l.place
