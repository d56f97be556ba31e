-- The line of a name, a number and a list of numbers that the console writes: of a burst. Assumes nothing.
use Rattle.std.specs.Prelude.{ℕ, List, ◌++◌}
use Rattle.fields.specs.Fields.{each, number}
use Rattle.replies.specs.Replies.{newline}

-- a name, a number and "all ROOM numbers of the answer list"
unfoldable pub listed : List ℕ → ℕ → List ℕ → List ℕ
listed name n s = name ++ number n ++ each number s ++ newline
