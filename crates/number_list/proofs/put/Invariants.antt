-- The loop's invariant: what is left of the numbers, put behind those that are put, gives what all of them give. Assumes nothing.
use mathlib.Core.Path.{◌≡◌}
use Prim.Native.Nat.{◌+◌}
use lib.ListN.{length, drop}
use lib.Seq.{sets}
use Rattle.number_list.proofs.put.Given as goal

abbrev pub invariant-loop-i : goal.invariant-loop-i
invariant-loop-i l = (length l.list ≡ length l.initial.list) × (sets l.list (0 + l.i) (drop l.i l.numbers) ≡ sets l.initial.list 0 l.numbers)
