-- One bit of a number that is made of others bit by bit. Assumes nothing.
use Prim.Native.Nat.{ℕ, zero, suc, ◌-◌, ◌/◌, ◌%◌, ◌^◌, ◌<◌}
use mathlib.Core.Path.{◌≡◌, sym, ap, ◌∙◌}
use mathlib.Core.Bool.{true, false, not, ◌&&◌, ◌||◌}
use mathlib.Core.Logic.{◌⊎◌, inl, inr, ⊎_elim}
use native.Mathlib.Omega.{arith}
use native.Mathlib.Nat.{pow-suc, mul_comm, div-div-eq-div-mul, not-suc-le-zero, zero-div}
use lib.Dec.{eqb}
use lib.Bits.{bit_and, bit_or, and_shr, and_mod, or_shr, or_mod}
use lib.Pow.{pow_pos}
use borrow.Author.Tests.{eq-eqb, eqb-true, eqb-false}
use Rattle.rules.specs.Bit.{bit}
use Rattle.rules.proofs.Choices.{by_bool}

binary : (x : ℕ) → (x % 2 ≡ 0) ⊎ (x % 2 ≡ 1)
binary x = by_bool (eqb (x % 2) 1) (λ e. inr (eqb-true (x % 2) 1 e)) (λ e. inl (omega (arith, eqb-false (x % 2) 1 e)))

and_digits : (x y : ℕ) → eqb (bit_and (x % 2) (y % 2)) 1 ≡ (eqb (x % 2) 1 && eqb (y % 2) 1)
and_digits x y =
    ⊎_elim
    (λ (p : x % 2 ≡ 0). rw p)
    (λ (p : x % 2 ≡ 1). ⊎_elim (λ (q : y % 2 ≡ 0). rw (p, q)) (λ (q : y % 2 ≡ 1). rw (p, q)) (binary y))
    (binary x)

or_digits : (x y : ℕ) → eqb (bit_or (x % 2) (y % 2)) 1 ≡ (eqb (x % 2) 1 || eqb (y % 2) 1)
or_digits x y =
    ⊎_elim
    (λ (p : x % 2 ≡ 0). ⊎_elim (λ (q : y % 2 ≡ 0). rw (p, q)) (λ (q : y % 2 ≡ 1). rw (p, q)) (binary y))
    (λ (p : x % 2 ≡ 1). ⊎_elim (λ (q : y % 2 ≡ 0). rw (p, q)) (λ (q : y % 2 ≡ 1). rw (p, q)) (binary y))
    (binary x)

pub bit_and_lem : (n a b : ℕ) → bit n (bit_and a b) ≡ (bit n a && bit n b)
bit_and_lem n a b =
    ap (λ (x : ℕ). eqb (x % 2) 1) (and_shr a b n) ∙ ap (λ (x : ℕ). eqb x 1) (and_mod (a / 2 ^ n) (b / 2 ^ n) 1)
    ∙ and_digits (a / 2 ^ n) (b / 2 ^ n)

pub bit_or_lem : (n a b : ℕ) → bit n (bit_or a b) ≡ (bit n a || bit n b)
bit_or_lem n a b =
    ap (λ (x : ℕ). eqb (x % 2) 1) (or_shr a b n) ∙ ap (λ (x : ℕ). eqb x 1) (or_mod (a / 2 ^ n) (b / 2 ^ n) 1)
    ∙ or_digits (a / 2 ^ n) (b / 2 ^ n)

-- a bit further up is one of the half
half_down : (x n : ℕ) → x / 2 ^ suc n ≡ x / 2 / 2 ^ n
half_down x n = ap (λ (p : ℕ). x / p) (pow-suc 2 n ∙ mul_comm (2 ^ n) 2) ∙ sym (div-div-eq-div-mul x 2 (2 ^ n))

-- what is left to all ones
left_digit : (n k s : ℕ) → n < k → s < 2 ^ k → (2 ^ k - 1 - s) / 2 ^ n % 2 ≡ 1 - s / 2 ^ n % 2
left_digit n zero s h g = absurd (not-suc-le-zero h)
left_digit zero (suc k) s h g =
    let p = pow-suc 2 k in
    let q = pow_pos k in
    let e : (2 ^ suc k - 1 - s) % 2 ≡ 1 - s % 2 = omega arith in
    let a : (2 ^ suc k - 1 - s) / 1 ≡ 2 ^ suc k - 1 - s = omega arith in
    let b : s / 1 ≡ s = omega arith in
    rw (a, b) e
left_digit (suc n) (suc k) s h g =
    let p = pow-suc 2 k in
    let q = pow_pos k in
    let e : (2 ^ suc k - 1 - s) / 2 ≡ 2 ^ k - 1 - s / 2 = omega arith in
    let r : s / 2 < 2 ^ k = omega arith in
    rw (half_down (2 ^ suc k - 1 - s) n, half_down s n, e) (left_digit n k (s / 2) (omega arith) r)

pub bit_left : (n k s : ℕ) → n < k → s < 2 ^ k → bit n (2 ^ k - 1 - s) ≡ not (bit n s)
bit_left n k s h g =
    ap (λ (x : ℕ). eqb x 1) (left_digit n k s h g)
    ∙ ⊎_elim (λ (p : s / 2 ^ n % 2 ≡ 0). rw p) (λ (p : s / 2 ^ n % 2 ≡ 1). rw p) (binary (s / 2 ^ n))

-- a number that is not 0 has a bit
pub record Some (k a : ℕ) : Type 0 where
  pub place : ℕ
  pub within : place < k
  pub set : bit place a ≡ true

pub some_bit : (k a : ℕ) → a < 2 ^ k → (a ≡ 0 → ⊥) → Some k a
some_bit zero a h n = absurd (n (omega arith))
some_bit (suc k) a h n =
    let p = pow-suc 2 k in
    ⊎_elim
    (λ (e : a % 2 ≡ 0).
    let m : a / 2 < 2 ^ k = omega arith in
    let z : a / 2 ≡ 0 → ⊥ = λ (u : a / 2 ≡ 0). n (omega arith) in
    let f = some_bit k (a / 2) m z in
    record { place = suc f.place; within = (let w = f.within in omega arith); set = ap (λ (x : ℕ). eqb (x % 2) 1) (half_down a f.place) ∙ f.set })
    (λ (e : a % 2 ≡ 1). let d : a / 1 ≡ a = omega arith in record { place = 0; within = omega arith; set = eq-eqb (a / 1 % 2) 1 (rw d e) })
    (binary a)

-- and 0 has none
pub no_bit : (n : ℕ) → bit n 0 ≡ false
no_bit n = rw (zero-div (2 ^ n))
