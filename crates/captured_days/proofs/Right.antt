-- A frame that is delivered, and one that is sent, is whole and has a right check sequence. Assumes nothing.
use Prim.Native.Nat.{ℕ, suc, ◌≤◌}
use mathlib.Core.Path.{◌≡◌, refl, sym}
use mathlib.Core.Bool.{Bool, false, not}
use mathlib.Core.List.{List, [], ◌∷◌, ◌++◌}
use native.Mathlib.Omega.{arith}
use lib.Dec.{eqb, ltb}
use lib.ListN.{length, take, drop, length-take}
use borrow.Author.Tests.{eqb-true, ltb-false, le-leb}
use Rattle.std.specs.Prelude.{if◌then◌else◌}
use Rattle.rules.proofs.Choices.{by_bool, passed, neither, or_parts, and_yes, if_no, not_no}
use Rattle.memory.proofs.Stores.{part_back}
use Rattle.fcs.specs.CheckSequence.{check_right}
use Rattle.fcs.proofs.Meaning.{closed_message_right}
use Rattle.frame.specs.Length.{length_allowed}
use Rattle.frame.specs.Frame.{frame_number_by}
use Rattle.reason.specs.Reason.{taken}
use Rattle.address_rule.specs.AddressRule.{address_rule}
use Rattle.window.specs.Window.{lent, offset}
use Rattle.descriptor.specs.Descriptor.{count, start}
use Rattle.chain.specs.Chain.{chain_number}
use Rattle.registers.specs.declared.Registers.{Registers}
use Rattle.receiving.specs.Receiving.{receive_number}
use Rattle.receiving.specs.Receive as plain
use Rattle.wire.specs.Wire.{send_length_wrong, padded, wire}
use Rattle.wire.proofs.Laws.{wire_bounds}
use Rattle.sending.specs.Sending.{payload_at, wire_at}
use Rattle.enet.specs.declared.Enet.{Enet}
use Rattle.enet.specs.Frames.{receive}
use Rattle.enet.specs.Send.{Sending, send}
use Rattle.enet.proofs.Ways.{by_send}
use Rattle.event.specs.Event.{Event, register_write, grant, frame, send as a_send}
use Rattle.calls.specs.Calls.{Bench}
use Rattle.playback.specs.Playing.{act}
use Rattle.pcap.specs.Capture.{Captured}
use Rattle.pcap_export.specs.Export.{frame_fault, first_wrong}
use Rattle.captured_days.specs.Captured.{if_done, captured_of, captured_from}
use Rattle.captured_days.specs.Exported.{FramesRight}

-- ---- delivered

frame_right : (reason : ℕ) (f : List ℕ) → frame_number_by reason f ≡ 0 → frame_fault f ≡ 0
unfolding frame_number_by frame_fault
frame_right reason f e =
    let a = passed (not (length_allowed (length f))) 4 (if not (check_right f) then 5 else (if not (taken reason) then 6 else 0)) (omega arith) e in
    let b = passed (not (check_right f)) 5 (if not (taken reason) then 6 else 0) (omega arith) a.1 in
    rw (a.0, b.0)

-- a receive that answers 0 has met no number for the frame
number_right : (base window : ℕ) (running : Bool) (place reason : ℕ) (m f : List ℕ)
    → receive_number base window running place (frame_number_by reason f) m (length f) ≡ 0 → frame_fault f ≡ 0
unfolding receive_number
number_right base window running place reason m f e =
    let a = passed (not (lent window m)) 11 _ (omega arith) e in
    let b = passed (not running) 3 _ (omega arith) a.1 in
    frame_right reason f (neither (frame_number_by reason f) (chain_number base window m place (length f)) b.1).0

plain_right : (base window : ℕ) (r : Registers) (m f : List ℕ) → (plain.receive base window r m f).number ≡ 0 → frame_fault f ≡ 0
unfolding plain.receive plain.receive_at
plain_right base window r m f =
    let reason = address_rule r.filter f in
    let n = receive_number base window r.rx.running r.rx.place (frame_number_by reason f) m (length f) in
    by_bool (eqb n 0)
    (λ t e. number_right base window r.rx.running r.rx.place reason m f (eqb-true n 0 t))
    (λ t. rw t (λ e. number_right base window r.rx.running r.rx.place reason m f e))

receive_right : (d : Enet) (m f : List ℕ) → (receive d m f).number ≡ 0 → frame_fault f ≡ 0
unfolding receive
receive_right d m f e = plain_right d.base d.window d.registers m f e

-- ---- sent

wire_right : (p : List ℕ) → length p ≤ 1514 → frame_fault (wire p) ≡ 0
unfolding frame_fault length_allowed wire
wire_right p h =
    let w = wire_bounds p h in
    let a = and_yes _ _ (le-leb 64 (length (wire p)) w.0) (le-leb (length (wire p)) 1518 w.1) in
    sym (if_no _ _ _ _ (not_no _ a) (if_no _ _ _ _ (not_no _ (closed_message_right (padded p))) refl))

payload_short : (base : ℕ) (m : List ℕ) (place : ℕ) → send_length_wrong (count base m place) ≡ false → length (payload_at base m place) ≤ 1514
unfolding send_length_wrong payload_at
payload_short base m place h =
    let n = count base m place in
    let k = ltb-false 1514 n (or_parts (ltb n 14) (ltb 1514 n) h).1 in
    let l = length-take n (drop (offset base (start base m place)) m) in
    omega arith

-- what a send put at the front of the output
SentRight : Sending → Type 0
SentRight s = s.number ≡ 0 → frame_fault (take s.count s.output) ≡ 0

send_right : (d : Enet) (m out : List ℕ) → SentRight (send d m out)
unfolding SentRight wire_at
send_right d m out =
    by_send SentRight d m out (λ q. absurd (omega arith)) (λ q. absurd (omega arith)) (λ q. absurd (omega arith)) (λ q. absurd (omega arith))
    (λ q. absurd (omega arith)) (λ q. absurd (omega arith))
    (λ l w q.
    let place = d.registers.tx.place in
    let p = payload_at d.base m place in
    let short = payload_short d.base m place w in
    let bounds = wire_bounds p short in
    let most = bounds.1 in
    let room = ltb-false (length out) 1518 l in
    rw (part_back out 0 (wire p) (omega arith)) (wire_right p short))

-- ---- captured

if_done_right : (number i : ℕ) (f : List ℕ) (cs : List Captured) → (number ≡ 0 → frame_fault f ≡ 0) → first_wrong cs ≡ 0 → first_wrong (if_done number i f ++ cs) ≡ 0
unfolding first_wrong
if_done_right number i f cs r e =
    by_bool (eqb number 0) (λ t. rw (t, r (eqb-true number 0 t)) e) (λ t. rw t e)

one_right : (i : ℕ) (b : Bench) (out : List ℕ) (e : Event) (cs : List Captured) → first_wrong cs ≡ 0 → first_wrong (captured_of i e (act b out e) ++ cs) ≡ 0
unfolding act SentRight
one_right i b out (register_write register value) cs h = h
one_right i b out (grant address) cs h = h
one_right i b out (frame bytes) cs h = if_done_right _ i bytes cs (receive_right b.device b.memory bytes) h
one_right i b out a_send cs h = if_done_right _ i _ cs (send_right b.device b.memory out) h

pub frames_right : FramesRight
unfolding captured_from first_wrong
frames_right [] b out i = refl
frames_right (e ∷ es) b out i =
    let a = act b out e in
    one_right i b out e (captured_from (suc i) a.bench a.output es) (frames_right es a.bench a.output (suc i))
