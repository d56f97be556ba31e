-- Following the next words of a ring goes round: place t + n is place t, so that no remainder is needed. What holds of its
-- first n places holds of all, and what holds of two of them holds of two places of one round. Assumes nothing.
use Prim.Native.Nat.{ℕ, zero, suc, ◌+◌, ◌≤◌, ◌<◌}
use mathlib.Core.Path.{◌≡◌, refl, sym, ap, ◌∙◌, subst}
use mathlib.Core.List.{List}
use mathlib.Core.Bool.{true}
use native.Mathlib.Omega.{arith}
use native.Mathlib.Decide.{dec_lt}
use Rattle.descriptor.specs.Descriptor.{next_enabled, next}
use Rattle.links.specs.Links.{follow, Closed}
use Rattle.links.proofs.Follow.{follow_next, follow_add}

module _ (base : ℕ) (m : List ℕ) (n first : ℕ) (some : 0 < n) (again : follow base m n first ≡ first) where
  abbrev place : ℕ → ℕ
  place t = follow base m t first

  pub round_at : (t : ℕ) → follow base m (t + n) first ≡ follow base m t first
  round_at t =
      let e : t + n ≡ n + t = omega arith in
      rw e (sym (follow_add base m n t first) ∙ ap (follow base m t) again)

  -- every place is one of the first n
  pub low_at : (t : ℕ) → (k : ℕ) × ((k < n) × (follow base m t first ≡ follow base m k first))
  low_at zero = (0, (some, refl))
  low_at (suc t) = up (low_at t).0 (low_at t).1.0 (one_on (low_at t).0 (low_at t).1.1) (dec_lt (suc (low_at t).0) n)
    where
      one_on : (k : ℕ) → place t ≡ place k → place (suc t) ≡ place (suc k)
      one_on k e = follow_next base m t first ∙ ap (next base m) e ∙ sym (follow_next base m k first)

      up : (k : ℕ) → k < n → place (suc t) ≡ place (suc k) → Dec (suc k < n) → (j : ℕ) × ((j < n) × (place (suc t) ≡ place j))
      up k l e (yes h) = (suc k, (h, e))
      up k l e (no h) = let z : suc k ≡ 0 + n = omega arith in (0, (some, e ∙ rw z (round_at 0)))

  pub each_at : (P : ℕ → Type 0) → ((k : ℕ) → k < n → P (follow base m k first)) → (t : ℕ) → P (follow base m t first)
  each_at P h t = let w = low_at t in subst P (sym w.1.1) (h w.0 w.1.0)

  module _ (R : ℕ → ℕ → Type 0) (swap : (c d : ℕ) → R c d → R d c)
      (h : (i j : ℕ) → i < j → j < n → R (follow base m i first) (follow base m j first)) where
    -- two of the n places from s on
    abbrev Round : ℕ → Type 0
    Round s = (i j : ℕ) → s ≤ i → i < j → j < s + n → R (place i) (place j)

    -- of the n places from suc s on the last is the one that was left
    turned : (s : ℕ) → Round s → Round (suc s)
    turned s r i j l u w = go (dec_lt j (s + n))
      where
        go : Dec (j < s + n) → R (place i) (place j)
        go (yes x) = r i j (omega arith) u x
        go (no x) =
            let e : j ≡ s + n = omega arith in
            rw (e, round_at s) (swap (place s) (place i) (r s i (omega arith) (omega arith) (omega arith)))

    round : (s : ℕ) → Round s
    round zero = λ i j l u w. h i j u (omega arith)
    round (suc s) = turned s (round s)

    pub pair_at : (s t : ℕ) → s < t → t < s + n → R (follow base m s first) (follow base m t first)
    pair_at s t l u = round s s t (omega arith) l u

-- each place of a ring has next-enable
pub enabled_at : {base : ℕ} {m : List ℕ} {n first : ℕ} → Closed base m n first → (t : ℕ) → next_enabled base m (follow base m t first) ≡ true
enabled_at {base} {m} {n} {first} c =
    each_at base m n first c.chain.some c.again (λ d. next_enabled base m d ≡ true) (λ k l. go k l (dec_lt (suc k) n))
  where
    go : (k : ℕ) → k < n → Dec (suc k < n) → next_enabled base m (follow base m k first) ≡ true
    go k l (yes h) = c.chain.linked k h
    go k l (no h) = c.last k (omega arith)
