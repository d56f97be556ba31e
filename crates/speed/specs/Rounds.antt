-- What the benchmark times: rounds of a call, each given back the descriptor that the last one used up. Assumes nothing.
use Rattle.std.specs.Prelude.{ℕ, zero, suc, ◌+◌, List}
use Rattle.packet_status.specs.PacketStatus.{with_packet_status, granted_status}
use Rattle.enet.specs.declared.Enet.{Enet}
use Rattle.enet.specs.Device.{Outcome}
use Rattle.enet.specs.Frames.{grant, receive}
use Rattle.enet.specs.Send.{Sending, send}
use Rattle.timing.specs.Timing.{passed, Received, rounds}

-- ---- frames in

-- the descriptor at address 0 is granted, and the frame comes in
unfoldable pub receive_round : Enet → List ℕ → List ℕ → Outcome
receive_round d m f = let g = grant d m 0 in receive g.device g.memory f

abbrev pub receive_rounds : ℕ → ℕ → Enet → List ℕ → List ℕ → Received
receive_rounds left taken d m f = rounds (λ d m. receive_round d m f) left taken d m

-- ---- frames out

-- how many frames were sent, and the memory and the output that they leave
pub record Transmitted : Type 0 where
  pub gone : ℕ
  pub memory : List ℕ
  pub output : List ℕ

abbrev pub transmitted : ℕ → List ℕ → List ℕ → Transmitted
transmitted n m out = record { gone = n; memory = m; output = out }

-- the firmware writes VALID into the descriptor at address 0, and one frame goes out
unfoldable pub send_round : Enet → List ℕ → List ℕ → Sending
send_round d m out = send d (with_packet_status 0 m 0 granted_status) out

unfoldable pub send_rounds : ℕ → ℕ → Enet → List ℕ → List ℕ → Transmitted
send_rounds zero gone d m out = transmitted gone m out
send_rounds (suc left) gone d m out =
    let s = send_round d m out in send_rounds left (gone + passed s.number) s.device s.memory s.output
