-- The table by which a register takes four single-bit steps at a time: 02, Wish 3, "four bits at a time from 16 entries, each proved equal to four
-- single-bit steps". Assumes nothing.
use Rattle.std.specs.Prelude.{ℕ, zero, suc, List, [], ◌∷◌}
use Rattle.half_bytes.specs.Clocks.{clocks}

-- what f gives of i, i + 1, .., n numbers
abbrev pub tabulate : (ℕ → ℕ) → ℕ → ℕ → List ℕ
tabulate f i zero = []
tabulate f i (suc n) = f i ∷ tabulate f (suc i) n

-- the 16 entries: entry i is the half byte i after four single-bit steps
unfoldable pub half_bytes : ℕ → List ℕ
half_bytes feedback = tabulate (clocks feedback 4) 0 16
