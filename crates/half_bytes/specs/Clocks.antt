-- Single-bit steps of a shift register whose least significant bit leaves first, whatever its feedback is: what is added where a 1 leaves it.
-- Assumes nothing.
use Rattle.std.specs.Prelude.{ℕ, zero, suc, ◌*◌, ◌/◌, ◌%◌, List, [], ◌∷◌}
use Rattle.std.specs.Int.Bits.{bit_xor}

-- one single-bit step: the register moves by one place, and where a 1 leaves it the feedback is added
unfoldable pub clock : ℕ → ℕ → ℕ
clock feedback r = bit_xor (r / 2) (r % 2 * feedback)

-- n single-bit steps
unfoldable pub clocks : ℕ → ℕ → ℕ → ℕ
clocks feedback zero r = r
clocks feedback (suc n) r = clocks feedback n (clock feedback r)

-- bytes enter, one behind the other: each is added to the register, and leaves it in eight single-bit steps
abbrev pub bytes_in : ℕ → ℕ → List ℕ → ℕ
bytes_in feedback r [] = r
bytes_in feedback r (b ∷ bs) = bytes_in feedback (clocks feedback 8 (bit_xor r b)) bs

-- the feedback of 802.3's register: G(x) without x^32, the coefficient of x^31 the least significant bit
abbrev pub feedback802 : ℕ
feedback802 = 0xedb8_8320
