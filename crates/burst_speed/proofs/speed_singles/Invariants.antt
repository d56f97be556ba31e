-- `burst_speed::speed_singles` meets its contract. The loop's invariant: the rounds left, run from here, give what all of them give.
-- Assumes nothing.
use mathlib.Core.Path.{◌≡◌}
use Prim.Native.Nat.{◌+◌, ◌≤◌}
use lib.ListN.{length}
use Rattle.burst_speed.specs.Bursts.{single_receives}
use Rattle.burst_speed.proofs.speed_singles.Given as goal

abbrev pub invariant-loop-left : goal.invariant-loop-left
invariant-loop-left l =
    (l.taken + l.left ≤ l.rounds) × ((length l.memory ≡ length l.initial.memory) × (single_receives l.left l.taken l.device l.memory l.frame ≡ single_receives l.rounds 0 l.initial.device l.initial.memory l.frame))

abbrev pub decreases-loop-left : goal.decreases-loop-left
decreases-loop-left l = l.left
