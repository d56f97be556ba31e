-- The same check by a shift register of 32 bits, as code and hardware compute it. It is kept reflected: the least significant bit is the coefficient of
-- x^31. That it gives the check of Polynomial.antt is proved (proofs/Register.antt, `by_register`).
-- Assumes nothing.
use Rattle.std.specs.Prelude.{ℕ, ◌-◌, ◌*◌, ◌/◌, ◌%◌, ◌^◌, Bool, List, [], ◌∷◌}
use Rattle.std.specs.Int.Bits.{bit_xor}
use Rattle.fcs.specs.CheckSequence.{digit}
use Rattle.fcs.specs.Polynomial.{low_bits, wire_bits}

-- G(x) without x^32, the coefficient of x^31 the least significant bit
abbrev pub reflected : ℕ
reflected = 0xedb8_8320

-- one clock: the register moves by one place, and where a 1 leaves it G(x) is added
unfoldable pub step : ℕ → ℕ
step r = bit_xor (r / 2) (r % 2 * reflected)

-- bits enter, one a clock: each is added to the bit that leaves
abbrev pub bits_in : ℕ → List Bool → ℕ
bits_in r [] = r
bits_in r (b ∷ bs) = bits_in (step (bit_xor r (digit b))) bs

-- a byte enters, its least significant bit first
unfoldable pub byte_in : ℕ → ℕ → ℕ
byte_in r b = bits_in r (low_bits 8 b)

abbrev pub all_ones : ℕ
all_ones = 2 ^ 32 - 1

-- the register starts at all ones, and its complement at the end is the check
abbrev pub register_check : List ℕ → ℕ
register_check message = all_ones - bits_in all_ones (wire_bits message)
