-- Laws of lists that the forms of a block ask for: zeros, lists of four, the digits of a number. Assumes nothing.
use Prim.Native.Nat.{ℕ, zero, suc, ◌+◌, ◌*◌, ◌/◌, ◌%◌, ◌≤◌, ◌<◌}
use mathlib.Core.Path.{◌≡◌, refl, ap₂}
use mathlib.Core.Bool.{true}
use mathlib.Core.List.{List, [], ◌∷◌}
use native.Mathlib.Omega.{arith}
use borrow.Author.Tests.{eqb-true}
use lib.Dec.{eqb}
use lib.ListN.{length, get_or, take, replicate}
use Rattle.rules.proofs.Choices.{and_parts}
use Rattle.memory.specs.Memory.{word_of, word_bytes}
use Rattle.block.specs.Faults.{all_zero}
use Rattle.block.specs.Made.{half_bytes}

-- ---- Zeros

pub zeros_zero : (n : ℕ) → all_zero (replicate n 0) ≡ true
unfolding all_zero
zeros_zero zero = refl
zeros_zero (suc n) = zeros_zero n

pub zero_zeros : (s : List ℕ) → all_zero s ≡ true → s ≡ replicate (length s) 0
unfolding all_zero
zero_zeros [] h = refl
zero_zeros (x ∷ s) h =
    let p = and_parts (eqb x 0) (all_zero s) h in
    ap₂ (λ (y : ℕ) (l : List ℕ). y ∷ l) (eqb-true x 0 p.0) (zero_zeros s p.1)

-- ---- Four elements

-- the first four
pub four_first : (s : List ℕ) → 4 ≤ length s → take 4 s ≡ get_or s 0 0 ∷ get_or s 1 0 ∷ get_or s 2 0 ∷ get_or s 3 0 ∷ []
four_first [] h = absurd (omega arith)
four_first (a ∷ []) h = absurd (omega arith)
four_first (a ∷ b ∷ []) h = absurd (omega arith)
four_first (a ∷ b ∷ c ∷ []) h = absurd (omega arith)
four_first (a ∷ b ∷ c ∷ d ∷ s) h = refl

-- ---- Digits

-- the number of two bytes, and two bytes of a number
pub half_bytes_lem : (a b : ℕ) → a < 256 → b < 256 → half_bytes (a + 256 * b) ≡ a ∷ b ∷ []
unfolding half_bytes
half_bytes_lem a b ha hb =
    let x : (a + 256 * b) % 256 ≡ a = omega arith in
    let y : (a + 256 * b) / 256 ≡ b = omega arith in
    let z : b % 256 ≡ b = omega arith in
    rw (x, y, z)

-- the same of four bytes
pub word_bytes_lem : (a b c d : ℕ) → a < 256 → b < 256 → c < 256 → d < 256 → word_bytes (word_of a b c d) ≡ a ∷ b ∷ c ∷ d ∷ []
unfolding word_bytes
word_bytes_lem a b c d ha hb hc hd =
    let x : word_of a b c d % 256 ≡ a = omega arith in
    let y : word_of a b c d / 256 ≡ b + 256 * (c + 256 * d) = omega arith in
    let y₁ : (b + 256 * (c + 256 * d)) % 256 ≡ b = omega arith in
    let z : (b + 256 * (c + 256 * d)) / 256 ≡ c + 256 * d = omega arith in
    let z₁ : (c + 256 * d) % 256 ≡ c = omega arith in
    let w : (c + 256 * d) / 256 ≡ d = omega arith in
    let w₁ : d % 256 ≡ d = omega arith in
    rw (x, y, y₁, z, z₁, w, w₁)
