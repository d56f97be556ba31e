-- 01, "Window and descriptor" and "Sound ring", and 02, Wish 5: addresses, the words that lead to them and regions of addresses, by
-- themselves. Bit positions are chapter 8's (docs/REGISTERS.md). Assumes nothing.
use Rattle.std.specs.Prelude.{ℕ, ◌+◌, ◌-◌, ◌%◌, Bool, ◌||◌, eqb, leb}
use Rattle.rules.specs.Bit.{bit}

-- an address with clear low bits: a multiple of 4
unfoldable pub aligned : ℕ → Bool
aligned address = eqb (address % 4) 0

-- "Addresses are taken with the low two bits cleared": the place that a word leads to
unfoldable pub place_of : ℕ → ℕ
place_of w = w - w % 4

-- 02, Wish 5: "a next-polling enable in the next word's low bits": NPOL_EN, bit 0, of a next-descriptor register and of a
-- descriptor's next word alike
unfoldable pub polls : ℕ → Bool
polls w = bit 0 w

-- the n bytes from a on and the k bytes from b on share no byte; neither region is empty
unfoldable pub apart : ℕ → ℕ → ℕ → ℕ → Bool
apart a n b k = leb (a + n) b || leb (b + k) a
