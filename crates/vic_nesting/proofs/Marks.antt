-- Ranks marked and unmarked in a list. Assumes nothing.
use Prim.Native.Nat.{ℕ, zero, suc, ◌<◌}
use mathlib.Core.Path.{◌≡◌, refl, sym, ap}
use mathlib.Core.Bool.{Bool, true, false}
use mathlib.Core.List.{List, [], ◌∷◌}
use native.Mathlib.Omega.{arith}
use native.Mathlib.Nat.{not-suc-le-zero, le_of_suc-le-suc}
use lib.ListN.{get_or, replicate}
use Rattle.first_where.specs.First.{first_where}
use Rattle.first_where.proofs.Laws.{first_before}
use Rattle.vic_service.specs.Service.{taken, ended, last_taken}
use Rattle.vic_nesting.specs.Taken.{last_of, Falling, marked}

-- unmarked, what was marked is as it was
pub mark_back : (s : List Bool) (r : ℕ) → get_or s r false ≡ false → ended (taken s r) r ≡ s
mark_back [] r e = refl
mark_back (b ∷ s) zero e = ap (λ (x : Bool). x ∷ s) (sym e)
mark_back (b ∷ s) (suc r) e = ap (λ (l : List Bool). b ∷ l) (mark_back s r e)

-- a mark before the first is the first
pub mark_first : (s : List Bool) (r : ℕ) → r < last_taken s → last_taken (taken s r) ≡ r
unfolding first_where
mark_first [] r h = absurd (not-suc-le-zero h)
mark_first (b ∷ s) zero h = refl
mark_first (true ∷ s) (suc r) h = absurd (not-suc-le-zero h)
mark_first (false ∷ s) (suc r) h = ap suc (mark_first s r (le_of_suc-le-suc h))

-- before the first there is none
pub not_marked : (s : List Bool) (r : ℕ) → r < last_taken s → get_or s r false ≡ false
not_marked s r h = first_before (λ b. b) s false r h

idle_none : (n : ℕ) → first_where (λ (b : Bool). b) (replicate n false) ≡ n
unfolding first_where
idle_none zero = refl
idle_none (suc n) = ap suc (idle_none n)

-- the lowest mark is the last of falling ranks
pub marked_last : (l : List ℕ) → Falling l → last_taken (marked l) ≡ last_of l
marked_last [] f = idle_none 64
marked_last (r ∷ l) f = mark_first (marked l) r (let e = marked_last l f.1 in let h = f.0 in omega arith)
