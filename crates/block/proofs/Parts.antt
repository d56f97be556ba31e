-- Laws of a block's parts: its zero fill, tested and lent as a part. Assumes nothing.
use Prim.Native.Nat.{ℕ, ◌+◌, ◌-◌, ◌<◌}
use mathlib.Core.Bool.{◌&&◌}
use mathlib.Core.Path.{◌≡◌, refl, sym, ap, ◌∙◌}
use mathlib.Core.List.{List, [], ◌∷◌}
use native.Mathlib.Numerals.{add-one}
use lib.Dec.{eqb}
use lib.ListN.{length, get_or, take, drop}
use lib.Seq.{drop-cons, drop-drop}
use Rattle.std.specs.List.{list_all}
use Rattle.memory.proofs.Parts.{drop_take}
use Rattle.block.specs.Fields.{data_of, used_length, unused_data}
use Rattle.block.specs.Faults.{all_zero}

-- ---- A test of each byte, and that of bytes that should be zero

pub zeros : (s : List ℕ) → list_all (λ byte. eqb byte 0) s ≡ all_zero s
unfolding all_zero
zeros [] = refl
zeros (byte ∷ bytes) = ap (λ rest. eqb byte 0 && rest) (zeros bytes)

-- ---- The bytes from a place on

pub next_byte : (s : List ℕ) (i : ℕ) → i < length s → drop i s ≡ get_or s i 0 ∷ drop (i + 1) s
next_byte s i h = rw add-one (drop-cons s i 0 h)

-- ---- The unused bytes as a part of the block

pub unused_part : (b : List ℕ) (u : ℕ) → u ≡ used_length b → take (504 - u) (drop (4 + u) b) ≡ unused_data b
unfolding unused_data data_of
unused_part b u e = rw (← e) (sym (drop_take u 504 (drop 4 b) ∙ ap (take (504 - u)) (drop-drop u 4 b)))
