-- A string that is made of pieces has these, and a string of pieces is made of them. Assumes nothing.
use Prim.Native.Nat.{ℕ, zero, suc, ◌+◌}
use mathlib.Core.Path.{◌≡◌, refl, sym, ap, ◌∙◌}
use mathlib.Core.List.{List, [], ◌∷◌, ◌++◌, append-nil}
use native.Mathlib.Omega.{arith}
use lib.Dec.{eqb}
use lib.ListN.{length, take, drop, length-append, length-take, take-append-drop}
use lib.Seq.{take_at, drop_at, drop-drop}
use Rattle.rules.proofs.Choices.{by_bool}
use Rattle.pieces.specs.Pieces.{pieces_by, pieces, sizes, behind, joined}
use Rattle.pieces.proofs.Turns.{Fits, one_more}

pub length_joined : (xs : List (List ℕ)) → length (joined xs) ≡ sizes xs
length_joined [] = refl
length_joined (x ∷ xs) = length-append x (joined xs) ∙ ap (λ (n : ℕ). length x + n) (length_joined xs)

-- a string that is a piece, whatever is behind it
abbrev pub Piece : (List ℕ → ℕ) → List ℕ → Type 0
Piece size x = ((r : List ℕ) → size (x ++ r) ≡ length x) × (length x ≡ 0 → ⊥)

abbrev pub AllPieces : (List ℕ → ℕ) → List (List ℕ) → Type 0
AllPieces size [] = Unit
AllPieces size (x ∷ xs) = Piece size x × AllPieces size xs

module _ (size : List ℕ → ℕ) (fits : Fits size) where
  -- pieces that are joined come apart again
  pub apart : (xs : List (List ℕ)) → AllPieces size xs → pieces size (joined xs) ≡ xs
  unfolding pieces_by
  apart [] a = refl
  apart (x ∷ xs) a =
      let e = a.0.0 (joined xs) in
      one_more size fits (x ++ joined xs) (λ q. a.0.1 (sym e ∙ q))
      ∙ rw (e, take_at x (joined xs) (length x) refl, drop_at x (joined xs) (length x) refl) (ap (λ (r : List (List ℕ)). x ∷ r) (apart xs a.1))

  -- the pieces of a string, joined, and what is behind them
  together_by : (n : ℕ) (s : List ℕ) → joined (pieces_by size n s) ++ drop (sizes (pieces_by size n s)) s ≡ s
  unfolding pieces_by
  together_by zero s = refl
  together_by (suc n) s =
      by_bool (eqb (size s) 0) (λ t. rw t)
      (λ t.
      let l = fits s in
      let k : length (take (size s) s) ≡ size s = length-take (size s) s ∙ omega arith in
      rw (t, k) (
      join (take (size s) s) (joined (pieces_by size n (drop (size s) s))) (drop (size s + sizes (pieces_by size n (drop (size s) s))) s)
      ∙ rw (← drop-drop (sizes (pieces_by size n (drop (size s) s))) (size s) s, together_by n (drop (size s) s)) (take-append-drop (size s) s)))
    where
      join : (a b c : List ℕ) → (a ++ b) ++ c ≡ a ++ (b ++ c)
      join [] b c = refl
      join (x ∷ a) b c = ap (λ (l : List ℕ). x ∷ l) (join a b c)

  pub together : (s : List ℕ) → joined (pieces size s) ++ drop (sizes (pieces size s)) s ≡ s
  together s = together_by (length s) s

  -- so many bytes they have
  pub all_bytes : (s : List ℕ) → sizes (pieces size s) + length (behind size s) ≡ length s
  all_bytes s =
      let l = length_joined (pieces size s) in
      let a = length-append (joined (pieces size s)) (behind size s) in
      let t = ap length (together s) in
      omega arith

  -- with nothing behind them
  pub whole : (s : List ℕ) → sizes (pieces size s) ≡ length s → joined (pieces size s) ≡ s
  whole s h =
      let b = all_bytes s in
      sym (append-nil (joined (pieces size s))) ∙ ap (λ (r : List ℕ). joined (pieces size s) ++ r) (sym (nothing (behind size s) (omega arith))) ∙ together s
    where
      nothing : (r : List ℕ) → length r ≡ 0 → r ≡ []
      nothing [] e = refl
      nothing (x ∷ r) e = absurd (omega arith)
