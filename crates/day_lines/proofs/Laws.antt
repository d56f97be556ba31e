-- The first line, and a new bench. Assumes nothing.
use Prim.Native.Nat.{ℕ}
use mathlib.Core.Path.{◌≡◌}
use mathlib.Core.List.{List}
use Rattle.enet.specs.declared.Answered.{Answered}
use Rattle.enet.specs.Device.{new}
use Rattle.text.specs.Text.{written, put}
use Rattle.words.specs.Words.{characters}
use Rattle.day_reports.specs.DayReports.{placed}
use Rattle.day_lines.specs.Opening.{opened, opening}

pub opens : (base window : ℕ) (made : Answered) (t t' : List ℕ) (end : ℕ) → made ≡ new base window
    → written end t' ≡ put t 0 (placed (characters "window") base window)
    → opened (record { device = made.device; waiting = end }) t' ≡ opening base window t
unfolding opening
opens base window made t t' end e w = λ j. record { device = (e j).device; text = w j }
