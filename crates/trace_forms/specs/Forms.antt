-- 02, Wish 4: what is written, "reading returns the same"; and what reads without a fault is, byte for byte, what is written of
-- the window and the events that it reads. Assumes nothing.
use Rattle.std.specs.Prelude.{ℕ, ◌*◌, ◌≤◌, ◌≡◌, List, length, take}
use Rattle.memory.specs.Memory.{store}
use Rattle.block_forms.specs.Forms.{Bytes}
use Rattle.event.specs.Walk.{walk}
use Rattle.stream.specs.Stream.{event_bytes}
use Rattle.trace.specs.Judge.{first_bad}
use Rattle.trace.specs.Reading.{Summary, look, reading_of, read}
use Rattle.trace_writing.specs.Made.{trace_of}
use Rattle.trace_writing.specs.Writing.{needed, write_number, write}

-- "Reading gives the window and events": these
abbrev pub same : ℕ → ℕ → List ℕ → Summary
same base window events =
    record {
      number = 0;
      block = 0;
      base = base;
      window = window;
      bytes = length events;
      events = length (walk events).events;
    }

-- ---- "else reading returns the same"

-- what reading gives of a trace that is made of a window and events
pub record Back (base window : ℕ) (events t : List ℕ) : Type 0 where
  pub long : length t ≡ 512 * needed events
  -- no block is bad
  pub good : first_bad t ≡ record { number = 0; block = 0 }
  pub bytes : event_bytes t ≡ events
  -- whatever the room beyond what is needed
  pub found : (room : ℕ) → length events ≤ room → look t room ≡ same base window events
  pub reads :
      (into : List ℕ)
      → length events ≤ length into
      → read t into ≡ reading_of (same base window events) (store into 0 events)

-- of each trace that writing does not refuse to make. An allowed window's numbers fit the header
abbrev pub RoundTrip : Type 0
RoundTrip =
    (base window : ℕ) (events : List ℕ) (room : ℕ)
    → write_number base window events room ≡ 0
    → Back base window events (trace_of base window events)

-- and so for the blocks that writing put at the front of a room
abbrev pub WrittenReads : Type 0
WrittenReads =
    (base window : ℕ) (events room into : List ℕ)
    → let w = write base window events room in
    w.written.number ≡ 0
    → length events ≤ length into
    → read (take (512 * w.written.blocks) w.room) into ≡ reading_of (same base window events) (store into 0 events)

-- ---- one form

-- what a trace is that reads to a window and events
pub record Formed (t : List ℕ) (f : Summary) : Type 0 where
  -- byte for byte what is made of them
  pub only : t ≡ trace_of f.base f.window (event_bytes t)
  -- which writing does not refuse: the events are whole, the window is allowed, and there are at most 65,536 blocks
  pub written : write_number f.base f.window (event_bytes t) (length t) ≡ 0

abbrev pub OneForm : Type 0
OneForm = (t : List ℕ) (room : ℕ) → Bytes t → (look t room).number ≡ 0 → Formed t (look t room)

-- two traces that read to one window and the same events are one
abbrev pub OneTrace : Type 0
OneTrace =
    (t u : List ℕ) (n m : ℕ)
    → Bytes t
    → Bytes u
    → (look t n).number ≡ 0
    → (look u m).number ≡ 0
    → (look t n).base ≡ (look u m).base
    → (look t n).window ≡ (look u m).window
    → event_bytes t ≡ event_bytes u
    → t ≡ u
