-- 02, Wish 4: the events of a recorded day as "direct calls" on a bench, "lent the same memory and output". They are the calls of
-- crate calls, so that what is proved of those holds of a replayed day. Assumes nothing.
use Rattle.std.specs.Prelude.{ℕ, List, [], ◌∷◌, take, drop}
use Rattle.memory.specs.Memory.{store}
use Rattle.event.specs.Event.{Event, register_write, grant, frame, send}
use Rattle.event.specs.Walk.{walk}
use Rattle.event.specs.declared.Found.{Found}
use Rattle.event.specs.declared.Found.TheVariants.{RegisterWrite, Grant, Frame, Send, Cut, NoEvent}
use Rattle.enet.specs.declared.Enet.{Enet}
use Rattle.calls.specs.Calls as calls
use Rattle.calls.specs.Calls.{Bench, Call, Result, call, grant_call, receive_call, send_call}
use Rattle.playback.specs.declared.Acted.{Acted}

-- the call that an event is. Each single send is lent the whole output
abbrev pub call_of : List ℕ → Event → Call
call_of output (register_write offset value) = calls.register_write offset value
call_of output (grant address) = grant_call address
call_of output (frame bytes) = receive_call bytes
call_of output send = send_call output

-- the output behind it: only a send writes there
abbrev pub output_behind : List ℕ → Event → Result → List ℕ
output_behind output (register_write offset value) r = output
output_behind output (grant address) r = output
output_behind output (frame bytes) r = output
output_behind output send r = r.bytes

-- what one event gives: its call's number and how many bytes it sent, the bench and the output that it leaves
pub record Acting : Type 0 where
  pub number : ℕ
  pub count : ℕ
  pub bench : Bench
  pub output : List ℕ

unfoldable pub act : Bench → List ℕ → Event → Acting
act b output e =
    let r = call b (call_of output e) in
    record { number = r.number; count = r.value; bench = r.bench; output = output_behind output e r }

-- what a list of events gives: each meets what the one before it left
pub record Played : Type 0 where
  pub answers : List ℕ
  pub bench : Bench
  pub output : List ℕ

unfoldable pub play : Bench → List ℕ → List Event → Played
play b output [] = record { answers = []; bench = b; output = output }
play b output (e ∷ es) =
    let a = act b output e in
    let p = play a.bench a.output es in
    record { answers = a.number ∷ p.answers; bench = p.bench; output = p.output }

-- ---- as the code tells it

abbrev pub bench_of : Enet → List ℕ → Bench
bench_of device memory = record { device = device; memory = memory }

-- what the code's answer, the memory and the output at its end say together
abbrev pub acting : Acted → List ℕ → List ℕ → Acting
acting r memory output =
    record { number = r.number; count = r.count; bench = bench_of r.device memory; output = output }

-- what is no whole event is no call: it has the number of an event fault, and nothing changes
abbrev pub no_act : Bench → List ℕ → Acting
no_act b output = record { number = 22; count = 0; bench = b; output = output }

-- what the code found in a list of bytes; a frame by where its bytes lie there
abbrev pub act_as : Bench → List ℕ → List ℕ → Found → Acting
act_as b output list (RegisterWrite offset value) = act b output (register_write offset value)
act_as b output list (Grant address) = act b output (grant address)
act_as b output list (Frame start n) = act b output (frame (take n (drop start list)))
act_as b output list Send = act b output send
act_as b output list Cut = no_act b output
act_as b output list NoEvent = no_act b output

-- the device, the memory, the output and the answer list that the code leaves
abbrev pub played : Enet → List ℕ → List ℕ → List ℕ → Played
played device memory output answers = record { answers = answers; bench = bench_of device memory; output = output }

-- the events of a list of bytes, their answers at the front of a lent list. What does not fit there is left out, and what is
-- behind them stays
unfoldable pub play_into : List ℕ → Bench → List ℕ → List ℕ → Played
play_into answers b output list =
    let p = play b output (walk list).events in
    record { answers = store answers 0 p.answers; bench = p.bench; output = p.output }
