-- A list cut within its length, as `within` says it. Assumes nothing.
use Prim.Native.Nat.{ℕ, zero, suc, ◌≤◌, min}
use mathlib.Core.Path.{◌≡◌}
use mathlib.Core.List.{List, [], ◌∷◌}
use native.Mathlib.Nat.{zero-min, min-zero, suc-min-suc}
use native.Mathlib.Omega.{arith}
use lib.ListN.{length, take, drop, length-take}

take_within : (n : ℕ) (s : List ℕ) → take (min n (length s)) s ≡ take n s
take_within zero s = rw zero-min
take_within (suc n) [] = rw min-zero
take_within (suc n) (x ∷ s) = rw (suc-min-suc, take_within n s)

drop_within : (n : ℕ) (s : List ℕ) → drop (min n (length s)) s ≡ drop n s
drop_within zero s = rw zero-min
drop_within (suc n) [] = rw min-zero
drop_within (suc n) (x ∷ s) = rw suc-min-suc (drop_within n s)

module _ (s : List ℕ) (n l r : ℕ) (q : l ≡ length s) (e : r ≡ min n l) where
  pub within_fits : r ≤ length s
  within_fits = omega arith

  pub within_long : r ≡ length (take r s)
  within_long = simp length-take (omega arith)

  pub within_seen : take r s ≡ take n s
  within_seen = rw (e, q) (take_within n s)

  pub within_kept : drop r s ≡ drop n s
  within_kept = rw (e, q) (drop_within n s)
