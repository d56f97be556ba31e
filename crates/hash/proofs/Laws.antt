-- The index out of the check of a destination, and the bit that it selects. Assumes nothing.
use mathlib.Core.Path.{◌≡◌, ◌∙◌}
use mathlib.Core.List.{List}
use Prim.Native.Nat.{ℕ, zero, suc, ◌+◌, ◌-◌, ◌*◌, ◌/◌, ◌%◌, ◌^◌}
use native.Mathlib.Nat.{pow-suc, div-div-eq-div-mul}
use native.Mathlib.Omega.{arith}
use lib.Dec.{eqb}
use lib.ListN.{take}
use borrow.Author.Tests.{eq-eqb, ne_eqb}
use Rattle.std.specs.Int.{w32, reverse_bits, reverse_bits_onto}
use Rattle.fcs.specs.Polynomial.{low_bits}
use Rattle.fcs.specs.CheckSequence.{check_number}
use Rattle.fcs.specs.ShiftRegister.{all_ones}
use Rattle.fcs.proofs.Register.{low_digit}
use Rattle.fcs.proofs.WireOrder.{register_bits_lem}
use Rattle.hash.specs.Hash.{highest_first, hash_index, hash_table, hash_accepts}

-- ---- The index

-- the bits that were reversed first lie above those that follow
reversed_first : (k n a : ℕ) → reverse_bits_onto k n a / 2 ^ k ≡ a
unfolding reverse_bits_onto
reversed_first zero n a = omega arith
reversed_first (suc k) n a =
    let x = reverse_bits_onto k (n / 2) (a * 2 + n % 2) in
    let h : x / 2 ^ k ≡ a * 2 + n % 2 = reversed_first k (n / 2) (a * 2 + n % 2) in
    rw (pow-suc 2 k, ← div-div-eq-div-mul x (2 ^ k) 2, h) (omega arith)

regrouped : (a b c d e f : ℕ) → (((((0 * 2 + a) * 2 + b) * 2 + c) * 2 + d) * 2 + e) * 2 + f ≡ a * 32 + (b * 16 + (c * 8 + (d * 4 + (e * 2 + (f * 1 + 0)))))
regrouped a b c d e f = omega arith

-- the upper six of 32 reversed bits: the six lowest of the number, exchanged end for end
upper_six : (v : ℕ) → reverse_bits w32 v / 2 ^ 26
    ≡ (((((0 * 2 + v % 2) * 2 + v / 2 % 2) * 2 + v / 2 / 2 % 2) * 2 + v / 2 / 2 / 2 % 2) * 2 + v / 2 / 2 / 2 / 2 % 2) * 2 + v / 2 / 2 / 2 / 2 / 2 % 2
unfolding reverse_bits_onto
upper_six v = reversed_first 26 (v / 2 / 2 / 2 / 2 / 2 / 2) _

first_six : (v : ℕ) → reverse_bits w32 v / 2 ^ 26 ≡ highest_first (take 6 (low_bits 32 v))
first_six v =
    upper_six v
    ∙ rw (
      low_digit v,
      low_digit (v / 2),
      low_digit (v / 2 / 2),
      low_digit (v / 2 / 2 / 2),
      low_digit (v / 2 / 2 / 2 / 2),
      low_digit (v / 2 / 2 / 2 / 2 / 2),
    )
    (regrouped (v % 2) (v / 2 % 2) (v / 2 / 2 % 2) (v / 2 / 2 / 2 % 2) (v / 2 / 2 / 2 / 2 % 2) (v / 2 / 2 / 2 / 2 / 2 % 2))

pub index_is : (d : List ℕ) (c r : ℕ) → c ≡ check_number d → r ≡ reverse_bits w32 (all_ones - c) → r / 2 ^ 26 ≡ hash_index d
unfolding hash_index
index_is d c r e f = rw (f, e, register_bits_lem d) (first_six (all_ones - check_number d))

-- ---- The bit

pub table_high : (high low i : ℕ) → i / 32 % 2 ≡ 1 → high ≡ hash_table high low i
table_high high low i e = rw (eq-eqb (i / 32 % 2) 1 e)

pub table_low : (high low i : ℕ) → (i / 32 % 2 ≡ 1 → ⊥) → low ≡ hash_table high low i
table_low high low i n = rw (ne_eqb (i / 32 % 2) 1 n)

pub selected : (high low : ℕ) (d : List ℕ) (i t : ℕ) → i ≡ hash_index d → t ≡ hash_table high low i
    → eqb (t / 2 ^ (i % 32) % 2) 1 ≡ hash_accepts high low d
unfolding hash_accepts
selected high low d i t e f = rw (f, e)
