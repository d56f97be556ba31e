-- Events counted one behind the other, and where they stop. Assumes nothing.
use Prim.Native.Nat.{ℕ, zero, suc, ◌+◌, ◌≤◌, ◌<◌}
use mathlib.Core.Path.{◌≡◌, sym, ap, ◌∙◌}
use native.Mathlib.Nat.{zero-add}
use native.Mathlib.Omega.{arith}
use native.Mathlib.Decide.{dec_lt}
use borrow.Author.Tests.{lt-ltb, le-ltb}
use Rattle.counters.specs.Counters.{stop, one_more}
use Rattle.counters.proofs.Laws.{below_stop, at_stop}
use Rattle.counting.specs.Counted.{up_to}

-- k events more
unfoldable pub more : ℕ → ℕ → ℕ
more zero n = n
more (suc k) n = more k (one_more n)

pub more_both : (j k n : ℕ) → more (j + k) n ≡ more k (more j n)
unfolding more
more_both zero k n = rw (zero-add k)
more_both (suc j) k n = let e : suc j + k ≡ suc (j + k) = omega arith in ap (λ x. more x n) e ∙ more_both j k (one_more n)

-- ---- the stop

below_up : (n : ℕ) → n < stop → up_to n ≡ n
unfolding up_to
below_up n h = rw (lt-ltb n stop h)

above_up : (n : ℕ) → stop ≤ n → up_to n ≡ stop
unfolding up_to
above_up n h = rw (le-ltb n stop h)

up_same : (n : ℕ) → n ≤ stop → n ≡ up_to n
up_same n h = by (dec_lt n stop)
  where
    by : Dec (n < stop) → n ≡ up_to n
    by (yes l) = sym (below_up n l)
    by (no l) = let e : n ≡ stop = omega arith in e ∙ sym (above_up n (omega arith))

-- events counted from n on
pub more_up : (k n : ℕ) → n ≤ stop → more k n ≡ up_to (n + k)
unfolding more
more_up zero n h = let e : n + 0 ≡ n = omega arith in rw e (up_same n h)
more_up (suc k) n h = by (dec_lt n stop) (more_up k)
  where
    by : Dec (n < stop) → ((i : ℕ) → i ≤ stop → more k i ≡ up_to (i + k)) → more k (one_more n) ≡ up_to (n + suc k)
    by (yes l) rest =
        let e : n + 1 + k ≡ n + suc k = omega arith in
        ap (more k) (sym (below_stop n l)) ∙ rest (n + 1) (omega arith) ∙ ap up_to e
    by (no l) rest =
        ap (more k) (sym (at_stop n (omega arith)))
        ∙ rest stop (omega arith)
        ∙ above_up (stop + k) (omega arith)
        ∙ sym (above_up (n + suc k) (omega arith))

-- since reset
pub more_since : (k : ℕ) → more k 0 ≡ up_to k
more_since k = let e : 0 + k ≡ k = omega arith in more_up k 0 (omega arith) ∙ ap up_to e

-- a counter at the stop stays there
pub more_stays : (k n : ℕ) → n ≡ stop → more k n ≡ stop
more_stays k n e = ap (more k) e ∙ more_up k stop (omega arith) ∙ above_up (stop + k) (omega arith)

-- one below it has not stopped
pub not_stopped : (n : ℕ) → up_to n < stop → up_to n ≡ n
not_stopped n h = by (dec_lt n stop)
  where
    by : Dec (n < stop) → up_to n ≡ n
    by (yes l) = below_up n l
    by (no l) = absurd (omega (arith, above_up n (omega arith)))
