-- docs/CONSOLE.md: the lines that say nothing. Assumes nothing.
use Rattle.std.specs.Prelude.{ℕ, Bool, ◌||◌, List, eqb, length, get_or}

-- "An empty line, and a line that begins with `#`, of any length, write nothing."
unfoldable pub silent : List ℕ → Bool
silent line = eqb (length line) 0 || eqb (get_or line 0 0) 35
