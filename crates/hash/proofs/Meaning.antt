-- What the definitions say, so that they can be trusted: two known groups, hash registers that are all ones or all zero, and both registers as one table.
-- Assumes nothing.
use mathlib.Core.Path.{◌≡◌, refl, sym, ap, ◌∙◌}
use mathlib.Core.Bool.{Bool, true, false}
use mathlib.Core.List.{List, [], ◌∷◌}
use Prim.Native.Nat.{ℕ, zero, suc, ◌+◌, ◌-◌, ◌*◌, ◌/◌, ◌%◌, ◌^◌, ◌<◌, ◌≤◌}
use native.Mathlib.Nat.{pow-suc, pow-succ', div-one, div-div-eq-div-mul, zero-div, mod-lt, zero-lt-suc}
use native.Mathlib.Decide.{dec_lt}
use native.Mathlib.Omega.{arith}
use lib.Dec.{eqb}
use lib.ListN.{length, take}
use lib.Pow.{pow_pos, shr-shr, high, low, field, mod-mod-pow}
use lib.Seq.{length-take-le}
use Rattle.rules.specs.Bit.{bit}
use Rattle.rules.proofs.Choices.{by_test}
use Rattle.fcs.specs.Polynomial.{generator, remainder, register_bits}
use Rattle.fcs.proofs.Register.{length_register}
use Rattle.hash.specs.Hash.{highest_first, hash_index, hash_table, hash_accepts}
use Rattle.hash.proofs.Laws.{table_high, table_low}

-- ---- known groups

-- 01-80-C2-00-00-01, the group of PAUSE frames: bit 3 of the low register
pub pause_index : hash_index (0x01 ∷ 0x80 ∷ 0xc2 ∷ 0x00 ∷ 0x00 ∷ 0x01 ∷ []) ≡ 3
unfolding hash_index register_bits remainder generator
pause_index = refl

-- 33-33-00-00-00-01, all nodes of IPv6: bit 30 of the high register
pub all_nodes_index : hash_index (0x33 ∷ 0x33 ∷ 0x00 ∷ 0x00 ∷ 0x00 ∷ 0x01 ∷ []) ≡ 32 + 30
unfolding hash_index register_bits remainder generator
all_nodes_index = refl

-- ---- both registers alike

alike : (v i : ℕ) → hash_table v v i ≡ v
alike v i = by_test (λ (t : ℕ). t ≡ v) (bit 5 i) v v (λ _. refl) (λ _. refl)

-- every bit below n of n ones
ones_bit : (n k : ℕ) → k < n → (2 ^ n - 1) / 2 ^ k % 2 ≡ 1
ones_bit zero k h = absurd (omega arith)
ones_bit (suc n) zero h =
    let p : 0 < 2 ^ n = pow_pos n in
    rw (pow-suc 2 n, div-one (2 ^ n * 2 - 1)) (omega arith)
ones_bit (suc n) (suc k) h =
    let p : 0 < 2 ^ n = pow_pos n in
    let e : (2 ^ n * 2 - 1) / 2 ≡ 2 ^ n - 1 = omega arith in
    rw (pow-suc 2 n, pow-succ' 2 k, ← div-div-eq-div-mul (2 ^ n * 2 - 1) 2 (2 ^ k), e) (ones_bit n k (omega arith))

pub ones_accept : (d : List ℕ) → hash_accepts 0xffff_ffff 0xffff_ffff d ≡ true
unfolding hash_accepts
ones_accept d =
    rw (alike 0xffff_ffff (hash_index d), ones_bit 32 (hash_index d % 32) (mod-lt (hash_index d) (zero-lt-suc 31)))

pub zeros_refuse : (d : List ℕ) → hash_accepts 0 0 d ≡ false
unfolding hash_accepts
zeros_refuse d = rw (alike 0 (hash_index d), zero-div (2 ^ (hash_index d % 32)))

-- ---- both registers as one table

highest_below : (p : List Bool) → highest_first p < 2 ^ length p
highest_below [] = omega arith
highest_below (true ∷ p) = rw (pow-suc 2 (length p)) (omega (arith, highest_below p))
highest_below (false ∷ p) = rw (pow-suc 2 (length p)) (omega (arith, highest_below p))

pub index_below : (d : List ℕ) → hash_index d < 64
unfolding hash_index
index_below d =
    let l : 6 ≤ length (register_bits d) = omega (arith, length_register d) in
    rw (length-take-le 6 (register_bits d) l) at (highest_below (take 6 (register_bits d)))

-- bit i of the low 32 bits, and of the bits above
low_bit : (high low i : ℕ) → low < 2 ^ 32 → i < 32 → low / 2 ^ i % 2 ≡ (high * 2 ^ 32 + low) / 2 ^ i % 2
low_bit hi lo i fits small =
    let n = hi * 2 ^ 32 + lo in
    let e : 31 - i + (1 + i) ≡ 32 = omega arith in
    let m : n % 2 ^ 32 % 2 ^ (1 + i) ≡ n % 2 ^ (1 + i) = rw e at (mod-mod-pow n (31 - i) (1 + i)) in
    sym (field lo 1 i) ∙ ap (λ (v : ℕ). v / 2 ^ i) (ap (λ (v : ℕ). v % 2 ^ (1 + i)) (sym (low hi 32 fits)) ∙ m) ∙ field n 1 i

high_bit : (high low k : ℕ) → low < 2 ^ 32 → high / 2 ^ k % 2 ≡ (high * 2 ^ 32 + low) / 2 ^ (32 + k) % 2
high_bit hi lo k fits = ap (λ (v : ℕ). v % 2) (ap (λ (v : ℕ). v / 2 ^ k) (sym (high hi 32 fits)) ∙ shr-shr (hi * 2 ^ 32 + lo) 32 k)

one_bit : (high low i : ℕ) → low < 2 ^ 32 → i < 64 → Dec (i < 32) → bit (i % 32) (hash_table high low i) ≡ bit i (high * 2 ^ 32 + low)
one_bit hi lo i fits small (yes l) =
    let n : i / 32 % 2 ≡ 1 → ⊥ = λ e. omega arith in
    let m : i % 32 ≡ i = omega arith in
    rw (← table_low hi lo i n, m) (ap (λ (v : ℕ). eqb v 1) (low_bit hi lo i fits l))
one_bit hi lo i fits small (no l) =
    let y : i / 32 % 2 ≡ 1 = omega arith in
    let m : i % 32 ≡ i - 32 = omega arith in
    let e : 32 + (i - 32) ≡ i = omega arith in
    rw (← table_high hi lo i y, m) (ap (λ (v : ℕ). eqb v 1) (high_bit hi lo (i - 32) fits ∙ ap (λ (k : ℕ). (hi * 2 ^ 32 + lo) / 2 ^ k % 2) e))

-- chapter 8's "64-bit hash table" (RM0006 8.4.24, 8.4.25), multicast hash high its upper half: the bit that the index numbers decides
pub one_table : (high low : ℕ) (d : List ℕ) → low < 2 ^ 32 → hash_accepts high low d ≡ bit (hash_index d) (high * 2 ^ 32 + low)
unfolding hash_accepts
one_table hi lo d fits = one_bit hi lo (hash_index d) fits (index_below d) (dec_lt (hash_index d) 32)
