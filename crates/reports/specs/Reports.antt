-- The longer lines that the console writes. Assumes nothing.
use Rattle.std.specs.Prelude.{ℕ, List, ◌++◌}
use Rattle.fields.specs.Fields.{number, value, bytes}
use Rattle.replies.specs.Replies.{newline}

-- a name, a number and a value
unfoldable pub read : List ℕ → ℕ → ℕ → List ℕ
read name n v = name ++ number n ++ value v ++ newline

-- a name and bytes
unfoldable pub held : List ℕ → List ℕ → List ℕ
held name s = name ++ bytes s ++ newline

-- a name, a number and bytes
unfoldable pub shown : List ℕ → ℕ → List ℕ → List ℕ
shown name n s = name ++ number n ++ bytes s ++ newline
