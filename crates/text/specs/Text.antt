-- Text behind text in a lent buffer: what has no room is not written. Assumes nothing.
use Rattle.std.specs.Prelude.{ℕ, ◌+◌, List, leb, length}
use Rattle.std.specs.Prelude.{if◌then◌else◌}
use Rattle.memory.specs.Memory.{store}

-- a buffer, and where the text in it ends
pub record Text : Type 0 where
  pub end : ℕ
  pub buffer : List ℕ

-- what the code's answer and the buffer at its end say together
abbrev pub written : ℕ → List ℕ → Text
written end buffer = record { end = end; buffer = buffer }

-- where n characters from `at` on end: behind the last of them, or with the buffer
unfoldable pub end_of : ℕ → ℕ → ℕ → ℕ
end_of room at n = if leb (at + n) room then at + n else room

-- s written from `at` on
unfoldable pub put : List ℕ → ℕ → List ℕ → Text
put buffer at s = written (end_of (length buffer) at (length s)) (store buffer at s)
