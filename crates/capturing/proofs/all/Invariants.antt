-- `capturing::all` meets its contract. The loop's invariant: the events from here on give what all of them give from the start. Assumes nothing.
use Prim.Native.Nat.{◌-◌, ◌^◌, ◌<◌}
use mathlib.Core.Path.{◌≡◌}
use lib.ListN.{length}
use Rattle.capturing.specs.Capturing.{capturing}
use Rattle.capturing.proofs.Turns.{Going}
use Rattle.capturing.proofs.all.Given as goal

abbrev pub invariant-loop-n : goal.invariant-loop-n
invariant-loop-n l =
    Going (capturing l.initial.day l.initial.memory l.initial.output l.initial.list) l.events l.place l.i l.n (capturing l.day l.memory l.output l.list)
    × ((length l.events < 2 ^ 64) × ((length l.memory ≡ length l.initial.memory) × ((length l.output ≡ length l.initial.output) × (length l.list ≡ length l.initial.list))))

abbrev pub decreases-loop-n : goal.decreases-loop-n
decreases-loop-n l = length l.events - l.place
