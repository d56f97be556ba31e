-- Parts of the input, and the lines that they make: docs/CONSOLE.md, "Lines and words". Assumes nothing.
use Rattle.std.specs.Prelude.{ℕ, ◌+◌, ◌-◌, ◌^◌, Some, None, List, ltb, length, drop, take as front}
use Rattle.scanning.specs.Scanning.{index_of}
use Rattle.std.specs.Prelude.{if◌then◌else◌}
use Rattle.text.specs.Text.{put}
use Rattle.lines.specs.declared.Input.{Input}

-- before the first read
abbrev pub begin : Input
begin = record { from = 0; to = 0; kept = 0; ended = None; parts = 2 ^ 64 - 1 }

-- what is left of the chunk at hand: the characters from index `from` up to index `to`
abbrev pub left : Input → List ℕ → List ℕ
left i chunk = front (i.to - i.from) (drop i.from chunk)

-- "A line ends at a line feed": so many characters stand before the first one, or all where there is none
abbrev pub before_feed : List ℕ → ℕ
before_feed s = index_of 10 s

-- behind the line feed the next line begins
abbrev pub ends : Input → ℕ → ℕ → Input
ends i n kept = record { from = i.from + n + 1; to = i.to; kept = 0; ended = Some kept; parts = i.parts - 1 }

-- without one the line goes on in the next chunk, and nothing is left of this one
abbrev pub goes_on : Input → ℕ → Input
goes_on i kept = record { from = 0; to = 0; kept = kept; ended = None; parts = i.parts - 1 }

-- how far reading is behind a part, and the buffer of the line
pub record Taken : Type 0 where
  pub input : Input
  pub line : List ℕ

abbrev pub taken : Input → List ℕ → Taken
taken i line = record { input = i; line = line }

-- a part: what the chunk has of the line goes behind what is kept of it, as far as the buffer has room
unfoldable pub take : Input → List ℕ → List ℕ → Taken
take i chunk line =
    let s = left i chunk in
    let n = before_feed s in
    let t = put line i.kept (front n s) in
    taken (if ltb n (length s) then ends i n t.end else goes_on i t.end) t.buffer
