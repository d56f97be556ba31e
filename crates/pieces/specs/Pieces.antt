-- A string of bytes as pieces one behind the other. How long the piece at the front of a string is, the string says itself: `size`
-- tells it, and is 0 where there is none. Assumes nothing.
use Rattle.std.specs.Prelude.{ℕ, zero, suc, ◌+◌, List, [], ◌∷◌, ◌++◌, eqb, length, take, drop, Option, None, Some}
use Rattle.std.specs.Prelude.{if◌then◌else◌}

-- at most n pieces
unfoldable pub pieces_by : (List ℕ → ℕ) → ℕ → List ℕ → List (List ℕ)
pieces_by size zero s = []
pieces_by size (suc n) s = if eqb (size s) 0 then [] else take (size s) s ∷ pieces_by size n (drop (size s) s)

-- all of them: a piece has a byte at least
abbrev pub pieces : (List ℕ → ℕ) → List ℕ → List (List ℕ)
pieces size s = pieces_by size (length s) s

-- how many bytes they have
abbrev pub sizes : List (List ℕ) → ℕ
sizes [] = 0
sizes (x ∷ xs) = length x + sizes xs

-- what is behind them
abbrev pub behind : (List ℕ → ℕ) → List ℕ → List ℕ
behind size s = drop (sizes (pieces size s)) s

-- pieces as one string
abbrev pub joined : List (List ℕ) → List ℕ
joined [] = []
joined (x ∷ xs) = x ++ joined xs

-- a size as the code answers it: nothing in place of 0
abbrev pub unless_zero : ℕ → Option ℕ
unless_zero n = if eqb n 0 then None else Some n
