-- The lowest rank that is raised, in one controller and in both. Assumes nothing.
use Prim.Native.Nat.{ℕ, zero, suc, ◌%◌, ◌≤◌, ◌<◌, min}
use mathlib.Core.Path.{◌≡◌}
use mathlib.Core.Bool.{true}
use mathlib.Core.List.{List}
use mathlib.Core.Logic.{◌⊎◌, inl, inr, ⊎_elim}
use native.Mathlib.Omega.{arith}
use native.Mathlib.Nat.{not-suc-le-zero, eq-or-lt_of_le}
use lib.Dec.{eqb, ltb}
use lib.ListN.{length, get_or}
use borrow.Author.Tests.{eqb-true, ltb-true, ltb-false}
use Rattle.rules.specs.Bit.{bit}
use Rattle.rules.proofs.Choices.{by_bool, and_parts}
use Rattle.first_where.proofs.Laws.{first_holds}
use Rattle.vic_rank.specs.Rank.{names, slot_of, rank_in, lowest_among}

-- one of the requests has the lowest rank
pub record Found (cs : List ℕ) (s n r : ℕ) : Type 0 where
  pub input : ℕ
  pub within : input < n
  pub raised : bit input s ≡ true
  pub rank : r ≡ rank_in cs input

further : (cs : List ℕ) (s n r : ℕ) → Found cs s n r → Found cs s (suc n) r
further cs s n r f = let w = f.within in record { input = f.input; within = omega arith; raised = f.raised; rank = f.rank }

lower : (a b : ℕ) → (min a b ≡ a) ⊎ (min a b ≡ b)
lower a b = by_bool (ltb a b) (λ e. let h = ltb-true a b e in inl (omega arith)) (λ e. let h = ltb-false a b e in inr (omega arith))

pub lowest_found : (cs : List ℕ) (s n : ℕ) → lowest_among cs s n < 32 → Found cs s n (lowest_among cs s n)
unfolding lowest_among
lowest_found cs s zero h = absurd (omega arith)
lowest_found cs s (suc n) h =
    by_bool (bit n s)
    (λ e.
    let g : min (rank_in cs n) (lowest_among cs s n) < 32 = rw e at h in
    rw e
    (⊎_elim
    (λ (p : min (rank_in cs n) (lowest_among cs s n) ≡ rank_in cs n). record { input = n; within = omega arith; raised = e; rank = p })
    (λ (p : min (rank_in cs n) (lowest_among cs s n) ≡ lowest_among cs s n).
    let k : lowest_among cs s n < 32 = rw p at g in
    rw p (further cs s n (lowest_among cs s n) (lowest_found cs s n k)))
    (lower (rank_in cs n) (lowest_among cs s n))))
    (λ e.
    let g : lowest_among cs s n < 32 = rw e at h in
    rw e (further cs s n (lowest_among cs s n) (lowest_found cs s n g)))

-- and none has a lower one
pub lowest_least : (cs : List ℕ) (s n k : ℕ) → k < n → bit k s ≡ true → lowest_among cs s n ≤ rank_in cs k
unfolding lowest_among
lowest_least cs s zero k h e = absurd (not-suc-le-zero h)
lowest_least cs s (suc n) k h e =
    ⊎_elim
    (λ (p : k ≡ n). let u : bit n s ≡ true = rw p at e in rw (u, p) (omega arith))
    (λ (p : k < n).
    let g = lowest_least cs s n k p e in
    by_bool (bit n s) (λ u. rw u (omega arith)) (λ u. rw u g))
    (eq-or-lt_of_le (let q : k ≤ n = omega arith in q))

-- a rank of a controller is one of 32, and tells the input that has it
pub rank_small : (cs : List ℕ) (n : ℕ) → n < 16 → rank_in cs n < 32
unfolding rank_in
rank_small cs n h =
    by_bool (ltb (slot_of cs n) 16) (λ e. let g = ltb-true (slot_of cs n) 16 e in rw e (omega arith)) (λ e. rw e (omega arith))

pub slot_names : (cs : List ℕ) (n : ℕ) → length cs ≡ 16 → slot_of cs n < 16 → get_or cs (slot_of cs n) 0 % 16 ≡ n
unfolding names
slot_names cs n l h =
    let g : slot_of cs n < length cs = omega arith in
    let e : names n (get_or cs (slot_of cs n) 0) ≡ true = first_holds (names n) cs 0 g in
    eqb-true (get_or cs (slot_of cs n) 0 % 16) n (and_parts (bit 5 (get_or cs (slot_of cs n) 0)) (eqb (get_or cs (slot_of cs n) 0 % 16) n) e).1
