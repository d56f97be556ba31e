-- Single-bit steps only move what lies above the bits that leave. Assumes nothing.
use mathlib.Core.Path.{◌≡◌, sym, ap, ap₂, ◌∙◌}
use Prim.Native.Nat.{ℕ, zero, suc, ◌*◌, ◌/◌, ◌%◌, ◌^◌}
use native.Mathlib.Nat.{mod-lt, mul-div_cancel, mul-mod_left, mul-one, mul_assoc, pow-suc, zero-lt-suc}
use lib.Bits.{bit_xor, xor_shr, xor_mod, xor_shifted}
use lib.Pow.{split, pow_pos}
use Rattle.half_bytes.specs.Clocks.{clock, clocks}
use Rattle.half_bytes.proofs.ExclusiveOr.{xor_assoc}

pub clock_over : (f y l : ℕ) → clock f (bit_xor (y * 2) l) ≡ bit_xor y (clock f l)
unfolding clock
clock_over f y l =
    ap₂ (λ (x z : ℕ). bit_xor x (z * f)) (xor_shr (y * 2) l 1 ∙ ap (λ (x : ℕ). bit_xor x (l / 2)) (mul-div_cancel y (zero-lt-suc 1)))
    (xor_mod (y * 2) l 1 ∙ ap (λ (x : ℕ). bit_xor x (l % 2)) (mul-mod_left y 2))
    ∙ xor_assoc y (l / 2) (l % 2 * f)

clocks_over : (f n y l : ℕ) → clocks f n (bit_xor (y * 2 ^ n) l) ≡ bit_xor y (clocks f n l)
unfolding clocks
clocks_over f zero y l = ap (λ (x : ℕ). bit_xor x l) (mul-one y)
clocks_over f (suc n) y l =
    ap (λ (x : ℕ). clocks f n (clock f (bit_xor x l))) (ap (λ (x : ℕ). y * x) (pow-suc 2 n) ∙ sym (mul_assoc y (2 ^ n) 2))
    ∙ ap (clocks f n) (clock_over f (y * 2 ^ n) l)
    ∙ clocks_over f n y (clock f l)

-- n steps of a register: the steps of its n low bits, and what lies above them moved down
pub clocks_low : (f n r : ℕ) → clocks f n r ≡ bit_xor (r / 2 ^ n) (clocks f n (r % 2 ^ n))
clocks_low f n r =
    ap (clocks f n) (sym (split r n) ∙ sym (xor_shifted (r / 2 ^ n) n (r % 2 ^ n) (mod-lt r (pow_pos n))))
    ∙ clocks_over f n (r / 2 ^ n) (r % 2 ^ n)
