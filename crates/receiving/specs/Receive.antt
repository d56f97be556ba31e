-- 01, "A frame in": a receive, over the window's base and length, the registers and the lent memory. Assumes nothing.
use Rattle.std.specs.Prelude.{ℕ, Bool, List, eqb, length}
use Rattle.std.specs.Prelude.{if◌then◌else◌}
use Rattle.descriptor.specs.Descriptor.{next_enabled, next_word}
use Rattle.address_rule.specs.AddressRule.{address_rule}
use Rattle.frame.specs.Frame.{frame_number_by}
use Rattle.registers.specs.declared.Registers.{Registers}
use Rattle.registers.specs.declared.Change.{Change}
use Rattle.outcomes.specs.Outcomes.{rx_refused, rx_advanced}
use Rattle.receiving.specs.Receiving.{receive_number, delivered}

-- what a receive gives: its number, the registers and the memory that it leaves
pub record Received : Type 0 where
  pub number : ℕ
  pub registers : Registers
  pub memory : List ℕ

-- what the code's answer and the memory at its end say together
abbrev pub received : Change → List ℕ → Received
received c m = record { number = c.number; registers = c.registers; memory = m }

abbrev pub leaves : ℕ → Registers → List ℕ → Received
leaves n r m = record { number = n; registers = r; memory = m }

-- what a frame leaves, by its number: 0 delivers it, with `reason`, what the address rule answers. The next word is the
-- descriptor's own: a frame never lies over its own descriptor, so it is the same before and after the delivery
abbrev pub received_by : ℕ → Registers → ℕ → ℕ → List ℕ → List ℕ → ℕ → Received
received_by base r place reason m f n =
    if eqb n 0
    then leaves 0 (rx_advanced r (next_enabled base m place) (next_word base m place)) (delivered base m place reason f)
    else leaves n (rx_refused n r) m

-- what a frame meets: the engine runs or not, its place, and what the address rule answers
unfoldable pub receive_at : ℕ → ℕ → Registers → Bool → ℕ → ℕ → List ℕ → List ℕ → Received
receive_at base window r running place reason m f =
    received_by base r place reason m f (receive_number base window running place (frame_number_by reason f) m (length f))

unfoldable pub receive : ℕ → ℕ → Registers → List ℕ → List ℕ → Received
receive base window r m f = receive_at base window r r.rx.running r.rx.place (address_rule r.filter f) m f
