-- 02, Wish 4: "Replay refuses as reading does, or if the lent answer list is short, with row 1's state; else answers, state,
-- memory and output are those of direct calls on a new bench of its window, lent the same memory and output." Assumes nothing.
use Rattle.std.specs.Prelude.{ℕ, List, Result, Ok, Err, eqb, ltb, length}
use Rattle.std.specs.Prelude.{if◌then◌else◌}
use Rattle.answer.specs.Refusals.{refusal_number}
use Rattle.memory.specs.Memory.{store}
use Rattle.event.specs.Walk.{walk}
use Rattle.stream.specs.Stream.{event_bytes}
use Rattle.trace.specs.Reading.{look}
use Rattle.enet.specs.declared.Enet.{Enet}
use Rattle.enet.specs.Device.{new, reset}
use Rattle.playback.specs.Playing.{play, bench_of}
use Rattle.replaying.specs.declared.Replayed.{Replayed as Day}
use Rattle.replaying.specs.declared.Refused.{Refused}

-- what a replay answers: 0, how many bytes its events are, how many events, and the device behind them; or the number of its
-- refusal, with the bad block where it is one's
pub record Replayed : Type 0 where
  pub number : ℕ
  pub block : ℕ
  pub bytes : ℕ
  pub events : ℕ
  pub device : Enet

-- as the code answers it
abbrev pub replayed_of : Result Day Refused → Replayed
replayed_of (Ok d) = record { number = 0; block = 0; bytes = d.bytes; events = d.events; device = d.device }
replayed_of (Err r) = record { number = refusal_number r.refusal; block = r.block; bytes = 0; events = 0; device = r.device }

-- what a replay gives: its number, with the bad block where it is a block's, the bytes and the number of the events, the device;
-- and the room, the memory, the output and the answer list that it leaves
pub record Replaying : Type 0 where
  pub replayed : Replayed
  pub room : List ℕ
  pub memory : List ℕ
  pub output : List ℕ
  pub answers : List ℕ

abbrev pub replaying : Replayed → List ℕ → List ℕ → List ℕ → List ℕ → Replaying
replaying r room memory output answers =
    record { replayed = r; room = room; memory = memory; output = output; answers = answers }

-- row 1's state: "the reset state, not running, base and window length 0"
abbrev pub refusal : ℕ → ℕ → Replayed
refusal number block = record { number = number; block = block; bytes = 0; events = 0; device = reset }

-- the reading's number first, then 24
unfoldable pub replay_number : List ℕ → ℕ → ℕ → ℕ
replay_number t room answers =
    let f = look t room in
    if eqb f.number 0 then (if ltb answers f.events then 24 else 0) else f.number

-- the day on a new bench; a longer answer list keeps its rest, and the room has the events at its front
abbrev pub played : List ℕ → List ℕ → List ℕ → List ℕ → List ℕ → Replaying
played t room memory output answers =
    let f = look t (length room) in
    let p = play (bench_of (new f.base f.window).device memory) output (walk (event_bytes t)).events in
    replaying
    (record { number = 0; block = 0; bytes = f.bytes; events = f.events; device = p.bench.device })
    (store room 0 (event_bytes t))
    p.bench.memory
    p.output
    (store answers 0 p.answers)

-- a refusal "changes nothing" of what is lent
unfoldable pub replay : List ℕ → List ℕ → List ℕ → List ℕ → List ℕ → Replaying
replay t room memory output answers =
    let n = replay_number t (length room) (length answers) in
    if eqb n 0
    then played t room memory output answers
    else replaying (refusal n (look t (length room)).block) room memory output answers
