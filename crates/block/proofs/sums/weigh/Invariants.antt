-- `block::sums::weigh` meets its contract. The loop's invariant: the sum of the places passed and that of the places left are the whole sum,
-- and each place passed added at most 323,850. Assumes nothing.
use Prim.Native.Nat.{◌+◌, ◌*◌, ◌≤◌, ◌-◌}
use mathlib.Core.Path.{◌≡◌}
use Rattle.block.proofs.Weights.{left}
use Rattle.block.proofs.sums.weigh.Given as goal

abbrev pub invariant-loop-i : goal.invariant-loop-i
invariant-loop-i l =
    (l.i ≤ 127) × ((l.weight ≡ l.i) × ((l.sum ≤ l.i * 323850) × (l.sum + left l.a l.b l.c l.d l.i ≡ left l.a l.b l.c l.d 0)))

abbrev pub decreases-loop-i : goal.decreases-loop-i
decreases-loop-i l = 127 - l.i
