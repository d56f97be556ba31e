-- A turn of the loop that puts numbers at a list's front. Assumes nothing.
use Prim.Native.Nat.{ℕ, ◌+◌, ◌<◌}
use mathlib.Core.Path.{◌≡◌, sym, ap, ◌∙◌}
use mathlib.Core.List.{List}
use native.Mathlib.Nat.{zero-add}
use lib.ListN.{length, get_or, drop, set}
use lib.Seq.{sets}
use Rattle.memory.proofs.Laws.{sets_turn}

pub front_turn : (m s : List ℕ) (i : ℕ) → i < length s → sets (set m i (get_or s i 0)) (0 + (i + 1)) (drop (i + 1) s) ≡ sets m (0 + i) (drop i s)
front_turn m s i h =
    let z : set m (0 + i) (get_or s i 0) ≡ set m i (get_or s i 0) = rw (zero-add i) in
    ap (λ (l : List ℕ). sets l (0 + (i + 1)) (drop (i + 1) s)) (sym z) ∙ sets_turn m s 0 i h
