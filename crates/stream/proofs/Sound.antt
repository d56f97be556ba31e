-- Blocks without a fault of their own: how long their used data is, and where each byte of it lies in the trace. Assumes nothing.
use Prim.Native.Nat.{ℕ, zero, suc, ◌+◌, ◌*◌, ◌/◌, ◌%◌, ◌-◌, ◌≤◌, ◌<◌}
use mathlib.Core.Path.{◌≡◌, refl, sym, ap, ◌∙◌}
use mathlib.Core.Bool.{false}
use mathlib.Core.List.{List, ◌++◌}
use native.Mathlib.Omega.{arith}
use lib.Dec.{eqb, ltb}
use lib.ListN.{length, get_or, take, drop, length-append, get_or-append}
use lib.Seq.{take_all, take-append-le, get_or-take, get_or-drop, get_or-append-add}
use borrow.Author.Tests.{eqb-true, eqb-false, ne_eqb, ltb-true, ltb-false}
use Rattle.rules.proofs.Choices.{by_bool}
use Rattle.block.specs.Fields.{used_length, data_of, used_data}
use Rattle.block.proofs.Right.{Right, right, used_long}
use Rattle.stream.specs.Blocks.{block_at, block_count, is_last, fault_at, Sound}
use Rattle.stream.specs.Stream.{stream}

-- ---- blocks one behind the other

module _ (t : List ℕ) where
  abbrev pub count : ℕ
  count = block_count (length t)

  pub not_last : (k : ℕ) → k + 1 < count → is_last t k ≡ false
  unfolding is_last
  not_last k h = ne_eqb (k + 1) count (λ q. omega arith)

  pub right_at : (k : ℕ) → fault_at t k ≡ 0 → Right (is_last t k) k (block_at t k)
  unfolding fault_at
  right_at k e = right (is_last t k) k (block_at t k) e

  used_at : (k : ℕ) → fault_at t k ≡ 0 → length (used_data (block_at t k)) ≡ used_length (block_at t k)
  used_at k e = let r = right_at k e in used_long (block_at t k) r.long r.fits

  -- all but the last are full
  pub length_full : (n : ℕ) → Sound t n → n < count → length (stream t n) ≡ 504 * n
  unfolding stream
  length_full zero s h = refl
  length_full (suc n) s h =
      let i = length_full n (λ k l. s k (omega arith)) (omega arith) in
      let e = s n (omega arith) in
      let r = right_at n e in
      let u = used_at n e in
      let f = r.full (not_last n (omega arith)) in
      length-append (stream t n) (used_data (block_at t n)) ∙ omega arith

  pub length_last : (n : ℕ) → Sound t (suc n) → n < count → length (stream t (suc n)) ≡ 504 * n + used_length (block_at t n)
  unfolding stream
  length_last n s h =
      let i = length_full n (λ k l. s k (omega arith)) h in
      let u = used_at n (s n (omega arith)) in
      length-append (stream t n) (used_data (block_at t n)) ∙ omega arith

  pub length_within : (n : ℕ) → Sound t n → n ≤ count → length (stream t n) ≤ 504 * n
  unfolding stream
  length_within zero s h = omega arith
  length_within (suc n) s h =
      let i = length_last n s (omega arith) in
      let f = (right_at n (s n (omega arith))).fits in
      omega arith

  -- the data of the first blocks is the front of the data of more
  pub front_of : (n k : ℕ) → Sound t n → n ≤ count → k < n → stream t (suc k) ≡ take (504 * suc k) (stream t n)
  unfolding stream
  front_of zero k s h l = absurd (omega arith)
  front_of (suc n) k s h l =
      by_bool (eqb k n)
      (λ e.
      let q = eqb-true k n e in
      let w = length_within (suc n) s h in
      rw q (sym (take_all (504 * suc n) (stream t (suc n)) w)))
      (λ e.
      let q = eqb-false k n e in
      let a = length_full n (λ j m. s j (omega arith)) (omega arith) in
      front_of n k (λ j m. s j (omega arith)) (omega arith) (omega arith)
      ∙ sym (longer (omega arith)))
    where
      longer : 504 * suc k ≤ length (stream t n) → take (504 * suc k) (stream t (suc n)) ≡ take (504 * suc k) (stream t n)
      longer m = take-append-le (504 * suc k) (stream t n) (used_data (block_at t n)) m

  -- a byte of a block's used data
  byte_in_lem : (n q : ℕ) → q < used_length (block_at t n) → used_length (block_at t n) ≤ 504 → get_or (used_data (block_at t n)) q 0 ≡ get_or t (512 * n + 4 + q) 0
  unfolding used_data data_of block_at
  byte_in_lem n q l f =
      let e : 512 * n + (4 + q) ≡ 512 * n + 4 + q = omega arith in
      get_or-take (used_length (block_at t n)) (take 504 (drop 4 (take 512 (drop (512 * n) t)))) q 0 l
      ∙ get_or-take 504 (drop 4 (take 512 (drop (512 * n) t))) q 0 (omega arith)
      ∙ get_or-drop 4 (take 512 (drop (512 * n) t)) q 0
      ∙ get_or-take 512 (drop (512 * n) t) (4 + q) 0 (omega arith)
      ∙ get_or-drop (512 * n) t (4 + q) 0
      ∙ ap (λ (k : ℕ). get_or t k 0) e

  -- where a byte of the data lies in the trace
  abbrev pub place_of : ℕ → ℕ
  place_of p = 512 * (p / 504) + 4 + p % 504

  pub byte_at : (n p : ℕ) → Sound t n → n ≤ count → p < length (stream t n) → get_or (stream t n) p 0 ≡ get_or t (place_of p) 0
  unfolding stream
  byte_at zero p s h l = absurd (omega arith)
  byte_at (suc n) p s h l =
      let a = length_full n (λ j m. s j (omega arith)) (omega arith) in
      by_bool (ltb p (504 * n))
      (λ e.
      let q = ltb-true p (504 * n) e in
      get_or-append (stream t n) (used_data (block_at t n)) 0 p (omega arith)
      ∙ byte_at n p (λ j m. s j (omega arith)) (omega arith) (omega arith))
      (λ e.
      let q = ltb-false p (504 * n) e in
      let z = s n (omega arith) in
      let r = right_at n z in
      let f = r.fits in
      let u = used_at n z in
      let b = length-append (stream t n) (used_data (block_at t n)) in
      let i : p ≡ length (stream t n) + (p - 504 * n) = omega arith in
      let less : p - 504 * n < used_length (block_at t n) = omega arith in
      let d : p / 504 ≡ n = omega arith in
      let m : p % 504 ≡ p - 504 * n = omega arith in
      let c : get_or (stream t n ++ used_data (block_at t n)) p 0 ≡ get_or (used_data (block_at t n)) (p - 504 * n) 0 =
      ap (λ (k : ℕ). get_or (stream t n ++ used_data (block_at t n)) k 0) i ∙ get_or-append-add (stream t n) (used_data (block_at t n)) (p - 504 * n) 0 in
      c ∙ byte_in_lem n (p - 504 * n) less f ∙ rw (d, m))
