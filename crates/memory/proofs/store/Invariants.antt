-- The loop's invariant: what is left of s, stored behind what is stored, gives what all of it gives. Assumes nothing.
use mathlib.Core.Path.{◌≡◌}
use Prim.Native.Nat.{◌+◌}
use lib.ListN.{length, drop}
use lib.Seq.{sets}
use Rattle.memory.proofs.store.Given as goal

abbrev pub invariant-loop-i : goal.invariant-loop-i
invariant-loop-i l = (length l.m ≡ length l.initial.m) × (sets l.m (l.at + l.i) (drop l.i l.s) ≡ sets l.initial.m l.at l.s)
