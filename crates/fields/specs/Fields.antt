-- docs/CONSOLE.md: "The console writes answers, steps, counts and line numbers in decimal, values and addresses in 8
-- lower-case hexadecimal digits, and bytes in lower-case pairs, or `-` for none." Each field stands behind a space.
-- Assumes nothing.
use Rattle.std.specs.Prelude.{ℕ, zero, suc, ◌+◌, ◌/◌, ◌%◌, List, [], ◌∷◌, ◌++◌, eqb, ltb, length}
use Rattle.std.specs.Prelude.{if◌then◌else◌}
use Rattle.words.specs.Words.{characters}

-- what stands for each of some numbers, one behind the other
unfoldable pub each : (ℕ → List ℕ) → List ℕ → List ℕ
each field [] = []
each field (n ∷ s) = field n ++ each field s

-- at most so many decimal digits of n, without zeros in front
unfoldable pub digits : ℕ → ℕ → List ℕ
digits zero n = []
digits (suc most) n = (if ltb n 10 then [] else digits most (n / 10)) ++ ((48 + n % 10) ∷ [])

-- "in decimal": 20 digits hold every number of 64 bits
unfoldable pub number : ℕ → List ℕ
number n = characters " " ++ digits 20 n

-- the character of a digit, `0` to `9` and `a` to `f`
unfoldable pub glyph : ℕ → ℕ
glyph d = if ltb d 10 then 48 + d else 87 + d

-- "bytes in lower-case pairs"
unfoldable pub pair : ℕ → List ℕ
pair b = glyph (b / 16) ∷ glyph (b % 16) ∷ []

abbrev pub pairs : List ℕ → List ℕ
pairs s = each pair s

-- "or `-` for none"
unfoldable pub bytes : List ℕ → List ℕ
bytes s = if eqb (length s) 0 then characters " -" else characters " " ++ pairs s

-- "in 8 lower-case hexadecimal digits": the four bytes, the highest first
unfoldable pub value : ℕ → List ℕ
value v = characters " " ++ pairs (v / 0x100_0000 % 256 ∷ v / 0x1_0000 % 256 ∷ v / 256 % 256 ∷ v % 256 ∷ [])
