-- The pieces of a string one behind the other, as an iterator gives them: the one at the front, whose size is not 0, and what is left.
-- Assumes nothing.
use Prim.Native.Nat.{ℕ, zero, suc, ◌≤◌}
use mathlib.Core.Path.{◌≡◌, refl, sym, ap, ◌∙◌}
use mathlib.Core.Bool.{true≢false}
use mathlib.Core.List.{List, [], ◌∷◌}
use native.Mathlib.Omega.{arith}
use lib.Dec.{eqb}
use lib.ListN.{length, take, drop, length-take}
use borrow.Author.Tests.{eq-eqb, ne_eqb, eqb-true, eqb-false}
use Rattle.std.proofs.Common.{Option, None, Some, is_some}
use Rattle.rules.proofs.Choices.{by_bool}
use Rattle.pieces.specs.Pieces.{pieces_by, pieces, unless_zero}
use Rattle.pieces.proofs.Turns.{Fits, one_more, stop}

-- ---- a size as the code answers it

pub no_size : (k : ℕ) → 0 ≡ k → None ≡ unless_zero k
no_size k e = rw (eq-eqb k 0 (sym e)) refl

pub size_is : (n k : ℕ) → n ≡ k → (k ≡ 0 → ⊥) → Some n ≡ unless_zero k
size_is n k e some = rw (e, ne_eqb k 0 some) refl

abbrev or_zero : Option ℕ → ℕ
or_zero (Some n) = n
or_zero None = 0

or_zero_of : (k : ℕ) → or_zero (unless_zero k) ≡ k
or_zero_of k = by_bool (eqb k 0) (λ t. rw t (sym (eqb-true k 0 t))) (λ t. rw t refl)

pub said_none : (k : ℕ) → None ≡ unless_zero k → k ≡ 0
said_none k e = sym (or_zero_of k) ∙ ap or_zero (sym e)

pub said_some : (n k : ℕ) → Some n ≡ unless_zero k → n ≡ k
said_some n k e = ap or_zero e ∙ or_zero_of k

pub said_more : (n k : ℕ) → Some n ≡ unless_zero k → k ≡ 0 → ⊥
said_more n k e z =
    let q : ◌≡◌ {A = Option ℕ} (Some n) None = e ∙ rw (eq-eqb k 0 z) refl in
    true≢false (ap is_some q)

-- ---- a string has no more pieces than bytes

few_by : (size : List ℕ → ℕ) (n : ℕ) (s : List ℕ) → length (pieces_by size n s) ≤ n
unfolding pieces_by
few_by size zero s = omega arith
few_by size (suc n) s =
    by_bool (eqb (size s) 0) (λ t. rw t (omega arith))
    (λ t.
    let r = few_by size n (drop (size s) s) in
    rw t (omega arith))

pub few : (size : List ℕ → ℕ) (s : List ℕ) → length (pieces size s) ≤ length s
few size s = few_by size (length s) s

-- ---- the next piece, and what is left

module _ (size : List ℕ → ℕ) (fits : Fits size) (s : List ℕ) where
  pub none_next : None ≡ unless_zero (size s) → pieces size s ≡ []
  none_next e = stop size fits s 0 0 (sym (said_none (size s) e)) refl

  module _ (n : ℕ) (e : Some n ≡ unless_zero (size s)) where
    pub next_fits : n ≤ length s
    next_fits =
        let f = fits s in
        let k = said_some n (size s) e in
        omega arith

    pub one_next : (x t : List ℕ) → x ≡ take n s → t ≡ drop n s → pieces size s ≡ x ∷ pieces size t
    one_next x t ex et =
        one_more size fits s (said_more n (size s) e) ∙ rw (← said_some n (size s) e, ← ex, ← et) refl

-- the first of a string's pieces has its size
pub first_piece : (size : List ℕ → ℕ) → Fits size → (s x : List ℕ) (xs : List (List ℕ)) → pieces size s ≡ x ∷ xs
    → (length x ≡ size s) × (size s ≡ 0 → ⊥)
first_piece size fits s x xs e =
    by_bool (eqb (size s) 0)
    (λ t.
    let none : 0 ≡ suc (length xs) = ap length (sym (stop size fits s 0 0 (sym (eqb-true (size s) 0 t)) refl) ∙ e) in
    absurd (omega arith))
    (λ t.
    let some = eqb-false (size s) 0 t in
    let f = fits s in
    let k = length-take (size s) s in
    let h : take (size s) s ≡ x = ap (first []) (sym (one_more size fits s some) ∙ e) in
    let l = ap length h in
    (omega arith, some))
  where
    first : List ℕ → List (List ℕ) → List ℕ
    first d [] = d
    first d (y ∷ ys) = y
