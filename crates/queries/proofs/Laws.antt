-- Laws of what each call says, from what the calls that it makes answered. Assumes nothing.
use Prim.Native.Nat.{ℕ}
use mathlib.Core.Path.{◌≡◌}
use mathlib.Core.Bool.{Bool}
use mathlib.Core.List.{List, [], ◌∷◌}
use Rattle.window.specs.Window.{offset}
use Rattle.reading.specs.Reading.{reading_number, reading}
use Rattle.ring.specs.Ring.{sound_ring}
use Rattle.enet.specs.declared.Enet.{Enet}
use Rattle.enet.specs.declared.Value.{Value}
use Rattle.enet.specs.Access.{read as read_register, interrupt_line}
use Rattle.words.specs.Words.{characters}
use Rattle.text.specs.Text.{Text, put}
use Rattle.replies.specs.Replies.{either}
use Rattle.reports.specs.Reports.{read, shown}
use Rattle.long_reports.specs.LongReports.{engines}
use Rattle.list_reports.specs.ListReports.{listed}
use Rattle.commands.specs.Commands.{read_says, line_says, show_says, ring_says, state_says, counters_say}

module _ (d : Enet) (t : List ℕ) (at : ℕ) (x : Text) where
  pub read_says_lem : (offset : ℕ) (a : Value) → a ≡ read_register d offset → x ≡ put t at (read (characters "read") a.number a.value)
      → x ≡ put t at (read_says d offset)
  unfolding read_says
  read_says_lem offset a e h = rw (← e) h

  pub line_says_lem : (high : Bool) → high ≡ interrupt_line d → x ≡ put t at (either high (characters "line 1") (characters "line 0"))
      → x ≡ put t at (line_says d)
  unfolding line_says
  line_says_lem high e h = rw (← e) h

  pub show_says_lem : (l : List ℕ) (address n : ℕ) (s : List ℕ) → n ≡ reading_number d.base d.window l address
      → s ≡ reading d.base d.window l address → x ≡ put t at (shown (characters "show") n s) → x ≡ put t at (show_says d l address)
  unfolding show_says
  show_says_lem l address n s e f h = rw (← e, ← f) h

  pub ring_says_lem : (l : List ℕ) (count address : ℕ) (sound : Bool) → sound ≡ sound_ring d.base d.window l count address
      → x ≡ put t at (either sound (characters "ring yes") (characters "ring no")) → x ≡ put t at (ring_says d l count address)
  unfolding ring_says
  ring_says_lem l count address sound e h = rw (← e) h

  pub state_says_lem : x ≡ put t at (engines (characters "state") d.registers.rx.running d.registers.rx.place d.registers.tx.running d.registers.tx.place)
      → x ≡ put t at (state_says d)
  unfolding state_says
  state_says_lem h = h

  pub counters_say_lem : (l : List ℕ) → l ≡ d.counters.lost ∷ d.counters.sent ∷ d.counters.ticks ∷ []
      → x ≡ put t at (listed (characters "counters") d.counters.delivered l) → x ≡ put t at (counters_say d)
  unfolding counters_say
  counters_say_lem l e h = rw (← e) h
