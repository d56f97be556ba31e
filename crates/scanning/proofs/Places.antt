-- The place of the first byte that is b, as std's `position` has it. Assumes nothing.
use Rattle.std.proofs.Common.{◌≡◌, ℕ, suc, ◌+◌, ◌≤◌, Bool, true, false, not, cond, List, [], ◌∷◌, length, refl, arith}
use Rattle.std.specs.Prelude.{Option, Some, None, unwrap_or, eqb, ltb, if◌then◌else◌}
use Rattle.std.specs.List.{position_or_len}
use borrow.Author.Tests.{ltb-false}
use Rattle.scanning.specs.Scanning.{index_of}

one_place : (t : Bool) (m n : ℕ) → m ≡ n → cond (not t) (1 + m) 0 ≡ (if t then 0 else 1 + n)
one_place true m n e = refl
one_place false m n e = λ j. 1 + e j

place_is : (b : ℕ) (s : List ℕ) → position_or_len (λ x. eqb x b) s ≡ index_of b s
place_is b [] = refl
place_is b (x ∷ s) = one_place (eqb x b) _ _ (place_is b s)

one_within : (t : Bool) (n l : ℕ) → n ≤ l → (if t then 0 else 1 + n) ≤ suc l
one_within true n l h = omega arith
one_within false n l h = omega arith

within : (b : ℕ) (s : List ℕ) → index_of b s ≤ length s
within b [] = omega arith
within b (x ∷ s) = one_within (eqb x b) _ _ (within b s)

by_test : (t : Bool) (p l : ℕ) → ltb p l ≡ t → p ≤ l → unwrap_or (cond t (Some p) None) l ≡ p
by_test true p l e h = refl
by_test false p l e h = omega (arith, ltb-false p l e)

pub place_told : (b : ℕ) (s : List ℕ) (r : Option ℕ)
    → r ≡ cond (ltb (position_or_len (λ x. eqb x b) s) (length s)) (Some (position_or_len (λ x. eqb x b) s)) None → unwrap_or r (length s) ≡ index_of b s
place_told b s r e = rw (e, place_is b s) (by_test (ltb (index_of b s) (length s)) (index_of b s) (length s) refl (within b s))
