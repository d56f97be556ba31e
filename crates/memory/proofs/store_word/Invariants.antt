-- The loop's invariant: the bytes left, stored behind what is stored, give what all four give. Assumes nothing.
use mathlib.Core.Path.{◌≡◌}
use Prim.Native.Nat.{◌+◌}
use lib.ListN.{length, drop}
use lib.Seq.{sets}
use Rattle.memory.proofs.store_word.Given as goal

abbrev pub invariant-loop-i : goal.invariant-loop-i
invariant-loop-i l = (length l.m ≡ length l.initial.m) × (sets l.m (l.at + l.i) (drop l.i l.bytes) ≡ sets l.initial.m l.at l.bytes)
