-- 01, "A frame out": the single send, over the window's base and length, the registers, the lent memory and the output.
-- Assumes nothing.
use Rattle.std.specs.Prelude.{ℕ, Bool, List, eqb, length}
use Rattle.std.specs.Prelude.{if◌then◌else◌}
use Rattle.memory.specs.Memory.{store}
use Rattle.descriptor.specs.Descriptor.{next_enabled, next_word}
use Rattle.packet_status.specs.PacketStatus.{with_packet_status}
use Rattle.registers.specs.declared.Registers.{Registers}
use Rattle.sending.specs.declared.Sent.{Sent}
use Rattle.outcomes.specs.Outcomes.{tx_refused, tx_advanced}
use Rattle.sending.specs.Sending.{send_number, wire_at}

-- what a single send gives: its number, the registers, the memory and the output that it leaves, and the bytes put there
pub record Sending : Type 0 where
  pub number : ℕ
  pub registers : Registers
  pub memory : List ℕ
  pub output : List ℕ
  pub count : ℕ

-- what the code's answer, the memory and the output at its end say together
abbrev pub sending : Sent → List ℕ → List ℕ → Sending
sending s m out = record { number = s.number; registers = s.registers; memory = m; output = out; count = s.count }

-- "returns their number (0 if refused)"
abbrev pub refused : ℕ → Registers → List ℕ → List ℕ → Sending
refused n r m out = record { number = n; registers = r; memory = m; output = out; count = 0 }

-- "puts 64 to 1,518 bytes at the front of the output, leaves the output's rest and returns their number". "It marks the
-- descriptor returned with other status bits 0"
abbrev pub sent : ℕ → Registers → ℕ → List ℕ → List ℕ → Sending
sent base r place m out = record {
  number = 0;
  registers = tx_advanced r (next_enabled base m place) (next_word base m place);
  memory = with_packet_status base m place 0;
  output = store out 0 (wire_at base m place);
  count = length (wire_at base m place);
}

-- what a single send leaves, by its number: 0 sends
abbrev pub sent_by : ℕ → Registers → ℕ → List ℕ → List ℕ → ℕ → Sending
sent_by base r place m out n = if eqb n 0 then sent base r place m out else refused n (tx_refused n r) m out

-- the engine runs or not, and its place
unfoldable pub send_at : ℕ → ℕ → Registers → Bool → ℕ → List ℕ → List ℕ → Sending
send_at base window r running place m out =
    sent_by base r place m out (send_number base window running place m (length out))

unfoldable pub send : ℕ → ℕ → Registers → List ℕ → List ℕ → Sending
send base window r m out = send_at base window r r.tx.running r.tx.place m out
