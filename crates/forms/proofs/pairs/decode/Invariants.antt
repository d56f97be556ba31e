-- `forms::pairs::decode` meets its contract. The loop's invariant: storing what is left gives what is asked. Assumes nothing.
use mathlib.Core.Path.{◌≡◌}
use Prim.Native.Nat.{◌*◌}
use lib.ListN.{length, drop}
use lib.Seq.{sets}
use Rattle.forms.specs.Pairs.{bytes_of}
use Rattle.forms.proofs.pairs.decode.Given as goal

abbrev pub invariant-loop-n : goal.invariant-loop-n
invariant-loop-n l = (length l.out ≡ length l.initial.out) × (sets l.out l.n (bytes_of (drop (2 * l.n) l.word)) ≡ sets l.initial.out 0 (bytes_of l.word))
