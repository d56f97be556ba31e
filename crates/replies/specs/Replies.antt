-- The short lines that the console writes. Assumes nothing.
use Rattle.std.specs.Prelude.{ℕ, Bool, List, ◌++◌}
use Rattle.std.specs.Prelude.{if◌then◌else◌}
use Rattle.words.specs.Words.{characters}
use Rattle.fields.specs.Fields.{number, value}

-- "A line ends at a line feed"
abbrev pub newline : List ℕ
newline = characters "\n"

-- words alone
unfoldable pub said : List ℕ → List ℕ
said words = words ++ newline

-- one of two
abbrev pub either : Bool → List ℕ → List ℕ → List ℕ
either holds a b = said (if holds then a else b)

-- a name and a number
unfoldable pub numbered : List ℕ → ℕ → List ℕ
numbered name n = name ++ number n ++ newline

-- a name and a value
unfoldable pub valued : List ℕ → ℕ → List ℕ
valued name v = name ++ value v ++ newline
