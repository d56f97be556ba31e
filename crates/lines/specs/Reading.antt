-- What a read leaves. Which characters come, and how many, is the system's. Assumes nothing.
use Rattle.std.specs.Prelude.{ℕ, ◌≤◌, ◌≡◌, true, false, List, eqb, ltb, length, None, is_some}
use Rattle.std.specs.Bool.{then_some}
use Rattle.std.specs.Prelude.{if◌then◌else◌}
use Rattle.lines.specs.declared.Input.{Input}

-- a chunk of n characters, behind what is kept of the line
abbrev pub refilled : Input → ℕ → Input
refilled i n = record { from = 0; to = n; kept = i.kept; ended = None; parts = i.parts }

-- the input's end. "A last line without one counts too": it has a character, or there is none
abbrev pub over : Input → Input
over i = record { from = 0; to = 0; kept = 0; ended = then_some (ltb 0 i.kept) i.kept; parts = 0 }

-- by a read of n characters: none is the input's end
unfoldable pub read : Input → ℕ → Input
read i n = if eqb n 0 then over i else refilled i n

-- what follows a part, with the chunk before and after: where it ended a line all stays, else there was a read of as many characters as are at hand
pub record More (i r : Input) (chunk chunk' : List ℕ) : Type 0 where
  pub next : r ≡ (if is_some i.ended then i else read i r.to)
  pub fits : is_some i.ended ≡ false → r.to ≤ length chunk'
  pub stays : is_some i.ended ≡ true → chunk' ≡ chunk
