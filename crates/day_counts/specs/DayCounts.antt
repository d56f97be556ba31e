-- 02, Wish 9, of a recorded day: a replay counts each frame. Its counters are the frames among its events by their answers. Assumes
-- nothing.
use Rattle.std.specs.Prelude.{ℕ, ◌+◌, ◌≡◌, List, [], ◌∷◌, eqb, take}
use Rattle.std.specs.Prelude.{if◌then◌else◌}
use Rattle.counters.specs.declared.Counters.{Counters}
use Rattle.event.specs.Event.{Event, register_write, grant, frame, send}
use Rattle.event.specs.Walk.{walk}
use Rattle.stream.specs.Stream.{event_bytes}
use Rattle.replaying.specs.Replay.{replay}
use Rattle.counting.specs.Counted.{up_to}

-- an event that is a frame, and one that is a single send
abbrev pub is_frame : Event → ℕ
is_frame (register_write offset value) = 0
is_frame (grant address) = 0
is_frame (frame bytes) = 1
is_frame send = 0

abbrev pub is_send : Event → ℕ
is_send (register_write offset value) = 0
is_send (grant address) = 0
is_send (frame bytes) = 0
is_send send = 1

-- how many events of a kind gave the answer n, of events with their answers
unfoldable pub answering : (Event → ℕ) → ℕ → List Event → List ℕ → ℕ
answering kind n [] answers = 0
answering kind n (e ∷ es) [] = 0
answering kind n (e ∷ es) (a ∷ rest) = (if eqb a n then kind e else 0) + answering kind n es rest

-- the counters, and what they count among these events
pub record DayCounted (es : List Event) (answers : List ℕ) (c : Counters) : Type 0 where
  pub delivered : c.delivered ≡ up_to (answering is_frame 0 es answers)
  pub lost : c.lost ≡ up_to (answering is_frame 8 es answers)
  pub sent : c.sent ≡ up_to (answering is_send 0 es answers)

-- every replay that is not refused, by the answers that it gave
abbrev pub ReplaysCount : Type 0
ReplaysCount =
    (t room memory output answers : List ℕ)
    → let r = replay t room memory output answers in
    r.replayed.number ≡ 0
    → DayCounted (walk (event_bytes t)).events (take r.replayed.events r.answers) r.replayed.device.counters
