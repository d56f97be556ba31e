-- Following the next words, and two regions that share no byte. Assumes nothing.
use Prim.Native.Nat.{ℕ, zero, suc, ◌+◌, ◌-◌, ◌<◌}
use mathlib.Core.Path.{◌≡◌, refl, ap}
use mathlib.Core.Logic.{inl, inr, ⊎_elim, ◌≢◌}
use mathlib.Core.List.{List}
use native.Mathlib.Omega.{arith}
use native.Mathlib.Nat.{zero-add, suc-add}
use native.Mathlib.Decide.{dec_lt}
use Rattle.memory.proofs.Stores.{Apart}
use Rattle.descriptor.specs.Descriptor.{next}
use Rattle.links.specs.Links.{follow, NoneShared, Chain}

module _ (base : ℕ) (m : List ℕ) where
  pub follow_zero : (d : ℕ) → follow base m 0 d ≡ d
  unfolding follow
  follow_zero d = refl

  pub follow_next : (k d : ℕ) → follow base m (suc k) d ≡ next base m (follow base m k d)
  unfolding follow
  follow_next zero d = refl
  follow_next (suc k) d = follow_next k (next base m d)

  pub follow_add : (t k d : ℕ) → follow base m k (follow base m t d) ≡ follow base m (t + k) d
  unfolding follow
  follow_add zero k d = rw zero-add
  follow_add (suc t) k d = rw suc-add (follow_add t k (next base m d))

-- ---- regions

pub none_shared : (a n b k : ℕ) → Apart a n b k → NoneShared a n b k
none_shared a n b k h i j l u e = ⊎_elim (λ x. omega arith) (λ x. omega arith) h

-- of regions that are not empty, the two say the same
pub shared_apart : (a n b k : ℕ) → 0 < n → 0 < k → NoneShared a n b k → Apart a n b k
shared_apart a n b k some some' h = go (dec_lt b (a + n)) (dec_lt a (b + k))
  where
    go : Dec (b < a + n) → Dec (a < b + k) → Apart a n b k
    go (no x) y = inl (omega arith)
    go (yes x) (no y) = inr (omega arith)
    go (yes x) (yes y) = over (dec_lt a b)
      where
        over : Dec (a < b) → Apart a n b k
        over (yes z) = absurd (h (b - a) 0 (omega arith) some' (omega arith))
        over (no z) = absurd (h 0 (a - b) some (omega arith) (omega arith))

-- "distinct": what lies apart from itself is no descriptor
pub distinct : {base : ℕ} {m : List ℕ} {n first : ℕ} → Chain base m n first → (i j : ℕ) → i < n → j < n → i ≢ j
    → follow base m i first ≢ follow base m j first
distinct c i j l u ne e = (c.clear i j l u ne).descriptor 0 0 (omega arith) (omega arith) (ap (λ x. x + 0) e)
