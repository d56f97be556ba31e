-- A word of 1 to 8 digits as a number. Assumes nothing.
use Rattle.std.specs.Prelude.{ℕ, ◌+◌, ◌-◌, ◌*◌, List, [], ◌∷◌, eqb, ltb, leb, length}
use Rattle.std.specs.Prelude.{Option, Some, None}
use Rattle.std.specs.Prelude.{if◌then◌else◌}

-- what a hexadecimal digit stands for, in either case: `0` to `9`, `A` to `F`, `a` to `f`. 16 for any other character
unfoldable pub digit : ℕ → ℕ
digit c =
    if ltb c 48 then 16 else
    if leb c 57 then c - 48 else
    if ltb c 65 then 16 else
    if leb c 70 then c - 65 + 10 else
    if ltb c 97 then 16 else
    if leb c 102 then c - 97 + 10 else
    16

-- n, and then the digits of a base, the most significant first
abbrev pub number_from : ℕ → ℕ → List ℕ → Option ℕ
number_from base n [] = Some n
number_from base n (c ∷ s) = if leb base (digit c) then None else number_from base (n * base + digit c) s

-- "1 to 8 digits"
unfoldable pub number_of : ℕ → List ℕ → Option ℕ
number_of base word =
    if eqb (length word) 0 then None else
    if ltb 8 (length word) then None else
    number_from base 0 word

unfoldable pub hexadecimal : List ℕ → Option ℕ
hexadecimal word = number_of 16 word

-- a number over its limit is wrong
abbrev pub up_to : ℕ → Option ℕ → Option ℕ
up_to most (Some n) = if ltb most n then None else Some n
up_to most None = None

unfoldable pub decimal : List ℕ → ℕ → Option ℕ
decimal word most = up_to most (number_of 10 word)
