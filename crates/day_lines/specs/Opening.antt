-- The first line of a replayed day, and its bench (docs/TRACE.md, "replay"). Assumes nothing.
use Rattle.std.specs.Prelude.{ℕ, List}
use Rattle.text.specs.Text.{Text, written, put}
use Rattle.words.specs.Words.{characters}
use Rattle.enet.specs.declared.Enet.{Enet}
use Rattle.enet.specs.Device.{new}
use Rattle.day_reports.specs.DayReports.{placed}
use Rattle.day_lines.specs.declared.Day.{Day}

pub record Opened : Type 0 where
  pub device : Enet
  pub text : Text

-- what the code's answer and the buffer at its end say together
abbrev pub opened : Day → List ℕ → Opened
opened day text = record { device = day.device; text = written day.waiting text }

-- "`window BASE LENGTH`", and a new bench of that window
unfoldable pub opening : ℕ → ℕ → List ℕ → Opened
opening base window text =
    record { device = (new base window).device; text = put text 0 (placed (characters "window") base window) }
