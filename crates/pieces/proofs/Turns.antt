-- The pieces of a string from a place on: one, and those behind it; or none. So a loop goes from place to place. Assumes nothing.
use Prim.Native.Nat.{ℕ, zero, suc, ◌+◌, ◌-◌, ◌≤◌}
use mathlib.Core.Path.{◌≡◌, refl, sym, ap, ◌∙◌}
use mathlib.Core.List.{List, [], ◌∷◌}
use native.Mathlib.Omega.{arith}
use lib.Dec.{eqb}
use lib.ListN.{length, take, drop, length-take, length-drop}
use lib.Seq.{drop-drop}
use borrow.Author.Tests.{eq-eqb, ne_eqb, eqb-true, eqb-false}
use Rattle.rules.proofs.Choices.{by_bool}
use Rattle.pieces.specs.Pieces.{pieces_by, pieces, sizes, behind}

-- a piece lies in its string
abbrev pub Fits : (List ℕ → ℕ) → Type 0
Fits size = (s : List ℕ) → size s ≤ length s

module _ (size : List ℕ → ℕ) (fits : Fits size) where
  -- the number of pieces that are looked for counts no more where it is as great as the string is long
  pub same_pieces : (a b : ℕ) (s : List ℕ) → length s ≤ a → length s ≤ b → pieces_by size a s ≡ pieces_by size b s
  unfolding pieces_by
  same_pieces zero zero s g h = refl
  same_pieces zero (suc b) s g h =
      let l = fits s in
      rw (eq-eqb (size s) 0 (omega arith))
  same_pieces (suc a) zero s g h =
      let l = fits s in
      rw (eq-eqb (size s) 0 (omega arith))
  same_pieces (suc a) (suc b) s g h =
      by_bool (eqb (size s) 0) (λ t. rw t)
      (λ t.
      let some = eqb-false (size s) 0 t in
      let l = length-drop (size s) s in
      rw t (ap (λ (r : List (List ℕ)). take (size s) s ∷ r) (same_pieces a b (drop (size s) s) (omega arith) (omega arith))))

  -- one piece, and those behind it
  one_by : (k : ℕ) (s : List ℕ) → (size s ≡ 0 → ⊥) → pieces_by size (suc k) s ≡ take (size s) s ∷ pieces_by size k (drop (size s) s)
  unfolding pieces_by
  one_by k s some = rw (ne_eqb (size s) 0 some)

  pub one_more : (s : List ℕ) → (size s ≡ 0 → ⊥) → pieces size s ≡ take (size s) s ∷ pieces size (drop (size s) s)
  one_more s some =
      let l = fits s in
      let k : length s ≡ suc (length s - 1) = omega arith in
      let d = length-drop (size s) s in
      let rest = same_pieces (length s - 1) (length (drop (size s) s)) (drop (size s) s) (omega arith) (omega arith) in
      ap (λ (n : ℕ). pieces_by size n s) k ∙ one_by (length s - 1) s some ∙ ap (λ (r : List (List ℕ)). take (size s) s ∷ r) rest

  -- the same at a place
  pub turn : (s : List ℕ) (p n : ℕ) → n ≡ size (drop p s) → (n ≡ 0 → ⊥) → pieces size (drop p s) ≡ take n (drop p s) ∷ pieces size (drop (p + n) s)
  turn s p n e some = rw (e, ← drop-drop (size (drop p s)) p s) (one_more (drop p s) (λ q. some (e ∙ q)))

  none_by_lem : (k : ℕ) (s : List ℕ) → size s ≡ 0 → pieces_by size k s ≡ []
  unfolding pieces_by
  none_by_lem zero s q = refl
  none_by_lem (suc k) s q = rw (eq-eqb (size s) 0 q)

  pub stop : (s : List ℕ) (p n : ℕ) → n ≡ size (drop p s) → n ≡ 0 → pieces size (drop p s) ≡ []
  stop s p n e z = none_by_lem (length (drop p s)) (drop p s) (sym e ∙ z)

  -- a piece at a place lies in the string, and has its size
  pub lies : (s : List ℕ) (p n : ℕ) → n ≡ size (drop p s) → p ≤ length s → p + n ≤ length s
  lies s p n e h =
      let l = fits (drop p s) in
      let d = length-drop p s in
      omega arith

  pub has : (s : List ℕ) (p n : ℕ) → n ≡ size (drop p s) → length (take n (drop p s)) ≡ n
  has s p n e =
      let l = fits (drop p s) in
      let t = length-take n (drop p s) in
      omega arith

  -- behind the pieces is none
  stopped_by : (n : ℕ) (s : List ℕ) → length s ≤ n → size (drop (sizes (pieces_by size n s)) s) ≡ 0
  unfolding pieces_by
  stopped_by zero s h =
      let l = fits s in
      omega arith
  stopped_by (suc n) s h =
      by_bool (eqb (size s) 0) (λ t. rw t (eqb-true (size s) 0 t))
      (λ t.
      let some = eqb-false (size s) 0 t in
      let l = fits s in
      let k : length (take (size s) s) ≡ size s = length-take (size s) s ∙ omega arith in
      let d = length-drop (size s) s in
      rw (t, k, ← drop-drop (sizes (pieces_by size n (drop (size s) s))) (size s) s) (stopped_by n (drop (size s) s) (omega arith)))

  pub stopped : (s : List ℕ) → size (behind size s) ≡ 0
  stopped s = stopped_by (length s) s (omega arith)
