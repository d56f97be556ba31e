-- A bit by its mask. Assumes nothing.
use mathlib.Core.Path.{◌≡◌, refl, ap, ◌∙◌}
use mathlib.Core.Bool.{not}
use Prim.Native.Nat.{ℕ, zero, suc, ◌*◌, ◌/◌, ◌%◌, ◌^◌, ◌<◌}
use native.Mathlib.Omega.{arith}
use lib.Bits.{bit_and, and_high}
use lib.Dec.{eqb}
use Rattle.rules.specs.Bit.{bit}

-- of a bit alone what is left is that bit in its place
one_bit : (b : ℕ) → b < 2 → not (eqb (b * 2 ^ 31) 0) ≡ eqb b 1
one_bit zero h = refl
one_bit (suc zero) h = refl
one_bit (suc (suc b)) h = absurd (omega arith)

pub receive_all_bit : (v : ℕ) → not (eqb (bit_and v 0x8000_0000) 0) ≡ bit 31 v
receive_all_bit v =
    ap (λ (x : ℕ). not (eqb x 0)) (and_high v 1 31) ∙ one_bit (v / 2 ^ 31 % 2) (omega arith)
