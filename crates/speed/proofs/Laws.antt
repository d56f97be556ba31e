-- What a round leaves, from what its calls leave; and the turns of the loop of sends. Assumes nothing.
use Prim.Native.Nat.{ℕ, zero, suc, ◌+◌, ◌-◌, ◌≤◌, ◌<◌}
use mathlib.Core.Path.{◌≡◌, refl}
use mathlib.Core.List.{List}
use native.Mathlib.Omega.{arith}
use Rattle.packet_status.specs.PacketStatus.{with_packet_status, granted_status}
use Rattle.enet.specs.declared.Enet.{Enet}
use Rattle.enet.specs.declared.Answered.{Answered}
use Rattle.enet.specs.declared.Sent.{Sent}
use Rattle.enet.specs.Device.{outcome}
use Rattle.enet.specs.Frames.{grant, receive}
use Rattle.enet.specs.Send.{sending, send}
use Rattle.timing.specs.Timing.{passed}
use Rattle.speed.specs.Rounds.{receive_round, transmitted, send_round, send_rounds}

-- ---- frames in

pub receive_round_is : (d : Enet) (m f : List ℕ) (g r : Answered) (m' m'' : List ℕ) → outcome g m' ≡ grant d m 0
    → outcome r m'' ≡ receive g.device m' f → outcome r m'' ≡ receive_round d m f
unfolding receive_round
receive_round_is d m f g r m' m'' e h = rw (← e) h

-- ---- frames out

pub send_round_is : (d : Enet) (m m' out : List ℕ) (r : Sent) (m'' out' : List ℕ) → m' ≡ with_packet_status 0 m 0 granted_status
    → sending r m'' out' ≡ send d m' out → sending r m'' out' ≡ send_round d m out
unfolding send_round
send_round_is d m m' out r m'' out' e h = rw e at h

pub send_turn : (left gone p : ℕ) (d : Enet) (m out : List ℕ) (s : Sent) (m' out' : List ℕ) → 0 < left → sending s m' out' ≡ send_round d m out
    → p ≡ passed s.number → send_rounds (left - 1) (gone + p) s.device m' out' ≡ send_rounds left gone d m out
unfolding send_rounds
send_turn zero gone p d m out s m' out' h e q = absurd (omega arith)
send_turn (suc left) gone p d m out s m' out' h e q = let k : suc left - 1 ≡ left = omega arith in rw (k, ← e, q)

pub send_end : (left gone : ℕ) (d : Enet) (m out : List ℕ) → left ≤ 0 → send_rounds left gone d m out ≡ transmitted gone m out
unfolding send_rounds
send_end zero gone d m out h = refl
send_end (suc left) gone d m out h = absurd (omega arith)
