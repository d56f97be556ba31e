-- The lines of a name and four fields that the console writes: of a step run, and of both engines. Assumes nothing.
use Rattle.std.specs.Prelude.{ℕ, Bool, List, ◌++◌}
use Rattle.std.specs.Prelude.{if◌then◌else◌}
use Rattle.fields.specs.Fields.{number, value, bytes}
use Rattle.replies.specs.Replies.{newline}

-- "the last answer, the steps made, how many bytes were sent"
unfoldable pub counts : ℕ → ℕ → ℕ → List ℕ
counts n steps count = number n ++ number steps ++ number count

-- a name, those, "the bytes"
unfoldable pub ran : List ℕ → ℕ → ℕ → ℕ → List ℕ → List ℕ
ran name n steps count s = name ++ counts n steps count ++ bytes s ++ newline

-- "whether the engine runs (0 or 1) and its place"
unfoldable pub engine : Bool → ℕ → List ℕ
engine running place = number (if running then 1 else 0) ++ value place

-- a name and both engines
unfoldable pub engines : List ℕ → Bool → ℕ → Bool → ℕ → List ℕ
engines name rx place tx place₂ = name ++ engine rx place ++ engine tx place₂ ++ newline
