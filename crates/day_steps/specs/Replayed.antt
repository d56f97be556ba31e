-- 02, Wish 4, of a replay that is not refused: "answers, state, memory and output are those of direct calls on a new bench of its
-- window, lent the same memory and output". Assumes nothing.
use Rattle.std.specs.Prelude.{ℕ, ◌≡◌, List, ◌∷◌, ◌++◌, length, get_or, take, drop}
use Rattle.event.specs.Event.{Event}
use Rattle.event.specs.Walk.{walk}
use Rattle.event.specs.declared.Ending.TheVariants.{Whole}
use Rattle.stream.specs.Stream.{event_bytes}
use Rattle.trace.specs.Reading.{look}
use Rattle.enet.specs.Device.{new}
use Rattle.calls.specs.Calls.{Bench}
use Rattle.playback.specs.Playing.{Played, bench_of, act, play}
use Rattle.replaying.specs.Replay.{Replaying, replay}

-- ---- a trace that is read

-- "a new bench of its window": the window is allowed, so that the bench is a new one and not row 1's state
abbrev pub BenchIsNew : Type 0
BenchIsNew =
    (t : List ℕ) (room : ℕ)
    → (look t room).number ≡ 0
    → (new (look t room).base (look t room).window).number ≡ 0

-- docs/TRACE.md: "each event is a call". There is nothing else in it: its bytes are events to the last
abbrev pub AllEvents : Type 0
AllEvents = (t : List ℕ) (room : ℕ) → (look t room).number ≡ 0 → (walk (event_bytes t)).ending ≡ Whole

-- ---- the direct calls

-- the bench of its window, with the lent memory
abbrev pub bench_for : List ℕ → ℕ → List ℕ → Bench
bench_for t room memory = bench_of (new (look t room).base (look t room).window).device memory

-- its events on that bench, one behind the other
abbrev pub direct : List ℕ → ℕ → List ℕ → List ℕ → Played
direct t room memory output = play (bench_for t room memory) output (walk (event_bytes t)).events

-- a replay gives what they give; a is the answer list that it was lent
pub record SameAs (d : Played) (r : Replaying) (a : List ℕ) : Type 0 where
  pub state : r.replayed.device ≡ d.bench.device
  pub memory : r.memory ≡ d.bench.memory
  pub output : r.output ≡ d.output
  -- an answer for each event, from the front of the list on
  pub count : r.replayed.events ≡ length d.answers
  pub answers : take r.replayed.events r.answers ≡ d.answers
  -- "a longer list keeps its rest"
  pub rest : drop r.replayed.events r.answers ≡ drop r.replayed.events a

abbrev pub DirectCalls : Type 0
DirectCalls =
    (t room memory output answers : List ℕ)
    → let r = replay t room memory output answers in
    r.replayed.number ≡ 0
    → SameAs (direct t (length room) memory output) r answers

-- "its number stands in its place of the list": an event with so many before it meets what they left
abbrev pub InPlace : Type 0
InPlace =
    (t room memory output answers : List ℕ)
    → let r = replay t room memory output answers in
    r.replayed.number ≡ 0
    → (ds : List Event) (e : Event) (es : List Event)
    → (walk (event_bytes t)).events ≡ ds ++ e ∷ es
    → let before = play (bench_for t (length room) memory) output ds in
    get_or r.answers (length ds) 0 ≡ (act before.bench before.output e).number
