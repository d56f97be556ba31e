-- The laws of the first place at which a test holds: that `position` finds it, and what is there and before it.
-- Assumes nothing.
use Prim.Native.Nat.{ℕ, zero, suc, ◌≤◌, ◌<◌}
use mathlib.Core.Path.{◌≡◌, refl}
use mathlib.Core.Bool.{Bool, true, false}
use mathlib.Core.List.{List, [], ◌∷◌}
use native.Mathlib.Omega.{arith}
use native.Mathlib.Nat.{not-suc-le-zero, le_of_suc-le-suc}
use native.Mathlib.Numerals.{one-add}
use lib.Dec.{ltb}
use lib.ListN.{length, get_or}
use borrow.Author.Tests.{ltb-false}
use Rattle.std.specs.Prelude.{Option}
use Rattle.std.specs.Option.{unwrap_or}
use Rattle.std.specs.List.{position, position_or_len}
use Rattle.std.proofs.lemmas.List.Recursion.{is_position_or_len}
use Rattle.rules.proofs.Choices.{by_bool}
use Rattle.first_where.specs.First.{first_where}

module _ {A : Type 0} (t : A → Bool) where
  -- ---- what the first place is

  pub first_within : (l : List A) → first_where t l ≤ length l
  unfolding first_where
  first_within [] = omega arith
  first_within (a ∷ l) = by_bool (t a) (λ e. rw e (omega arith)) (λ e. let h = first_within l in rw e (omega arith))

  -- ---- the list searched by `position`

  searched : (l : List A) → first_where t l ≡ position_or_len t l
  searched = is_position_or_len (first_where t) t (unfold first_where in refl) (λ a l. unfold first_where in rw (one-add (first_where t l)))

  pub found : (l : List A) (r : Option ℕ) → r ≡ position t l → unwrap_or r (length l) ≡ first_where t l
  found l r e =
      by_bool (ltb (position_or_len t l) (length l))
      (λ y. rw (e, searched l, y))
      (λ n.
      let h = first_within l in
      let g = ltb-false (position_or_len t l) (length l) n in
      let k : length l ≡ position_or_len t l = omega (arith, searched l) in
      rw (e, searched l, n) k)

  -- the test holds there
  pub first_holds : (l : List A) (d : A) → first_where t l < length l → t (get_or l (first_where t l) d) ≡ true
  unfolding first_where
  first_holds [] d h = absurd (not-suc-le-zero h)
  first_holds (a ∷ l) d h =
      by_bool (t a) (λ e. rw e e) (λ e. let g : suc (first_where t l) < suc (length l) = rw e at h in rw e (first_holds l d (le_of_suc-le-suc g)))

  -- and at no place before
  pub first_before : (l : List A) (d : A) (k : ℕ) → k < first_where t l → t (get_or l k d) ≡ false
  unfolding first_where
  first_before [] d k h = absurd (not-suc-le-zero h)
  first_before (a ∷ l) d zero h = by_bool (t a) (λ e. let g : 0 < 0 = rw e at h in absurd (not-suc-le-zero g)) (λ e. e)
  first_before (a ∷ l) d (suc k) h =
      by_bool (t a) (λ e. let g : suc k < 0 = rw e at h in absurd (not-suc-le-zero g))
      (λ e. let g : suc k < suc (first_where t l) = rw e at h in first_before l d k (le_of_suc-le-suc g))

  -- a place at which the test holds is not before the first
  pub first_least : (l : List A) (d : A) (k : ℕ) → t (get_or l k d) ≡ true → k < length l → first_where t l ≤ k
  unfolding first_where
  first_least [] d k e h = absurd (not-suc-le-zero h)
  first_least (a ∷ l) d zero e h = rw e (omega arith)
  first_least (a ∷ l) d (suc k) e h =
      by_bool (t a) (λ u. rw u (omega arith)) (λ u. let g = first_least l d k e (le_of_suc-le-suc h) in rw u (omega arith))
