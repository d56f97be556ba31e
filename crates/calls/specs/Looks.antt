-- The public calls that only look: the bench stays as it is. What each of them sees, by its own definition. Assumes nothing.
use Rattle.std.specs.Prelude.{ℕ, Bool, List, []}
use Rattle.std.specs.Prelude.{if◌then◌else◌}
use Rattle.ring.specs.Ring.{sound_ring}
use Rattle.reading.specs.Reading.{reading_number, reading}
use Rattle.enet.specs.declared.Enet.{Enet}
use Rattle.enet.specs.declared.Value.{Value}
use Rattle.enet.specs.Access.{read, interrupt_line}

pub data Look : Type 0 where
  register_read : (offset : ℕ) → Look
  line_read : Look
  reading_number_call : (address : ℕ) → Look
  reading_call : (address : ℕ) → Look
  ring_check : (number first : ℕ) → Look

-- what a look sees: its number (0 where it has none), a value (of a register or of a test), and bytes (the part that a
-- reading gives)
pub record Seen : Type 0 where
  pub number : ℕ
  pub value : ℕ
  pub bytes : List ℕ

abbrev pub seen : ℕ → ℕ → List ℕ → Seen
seen number value bytes = record { number = number; value = value; bytes = bytes }

abbrev pub of_read : Value → Seen
of_read v = seen v.number v.value []

abbrev pub of_test : Bool → Seen
of_test t = seen 0 (if t then 1 else 0) []

abbrev pub sees : Enet → List ℕ → Look → Seen
sees d m (register_read offset) = of_read (read d offset)
sees d m line_read = of_test (interrupt_line d)
sees d m (reading_number_call address) = seen (reading_number d.base d.window m address) 0 []
sees d m (reading_call address) = seen 0 0 (reading d.base d.window m address)
sees d m (ring_check number first) = of_test (sound_ring d.base d.window m number first)
