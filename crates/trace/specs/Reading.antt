-- 02, Wish 4: "Reading gives the window and events or the first bad block with its reason .. or last refuses too little room."
-- Each refusal "changes nothing". Assumes nothing.
use Rattle.std.specs.Prelude.{ℕ, List, Result, Ok, Err, eqb, ltb, length}
use Rattle.std.specs.Prelude.{if◌then◌else◌}
use Rattle.memory.specs.Memory.{store}
use Rattle.event.specs.Walk.{walk}
use Rattle.stream.specs.Blocks.{block_count}
use Rattle.stream.specs.Stream.{stream, base_of, window_of, event_bytes}
use Rattle.answer.specs.Refusals.{refusal_number}
use Rattle.stream.specs.declared.Refused.{Refused}
use Rattle.trace.specs.declared.Summary.{Summary as Said}
use Rattle.trace.specs.Judge.{first_bad}

-- what a trace says: 0, the window, how many bytes its events are and how many events; or the number of the refusal, with the bad
-- block where it is one's, and zeros
pub record Summary : Type 0 where
  pub number : ℕ
  pub block : ℕ
  pub base : ℕ
  pub window : ℕ
  pub bytes : ℕ
  pub events : ℕ

abbrev pub refused : ℕ → ℕ → Summary
refused number block = record { number = number; block = block; base = 0; window = 0; bytes = 0; events = 0 }

-- the window, how many bytes the events are, and how many events
abbrev pub given : List ℕ → Summary
given t =
    let s = stream t (block_count (length t)) in
    record {
      number = 0;
      block = 0;
      base = base_of s;
      window = window_of s;
      bytes = length (event_bytes t);
      events = length (walk (event_bytes t)).events;
    }

-- what a trace says to a reader with room for so many bytes
unfoldable pub look : List ℕ → ℕ → Summary
look t room =
    if eqb (first_bad t).number 0
    then (if ltb room (length (event_bytes t)) then refused 23 0 else given t)
    else refused (first_bad t).number (first_bad t).block

-- as the code answers it
abbrev pub summary_of : Result Said Refused → Summary
summary_of (Ok s) =
    record { number = 0; block = 0; base = s.base; window = s.window; bytes = s.bytes; events = s.events }
summary_of (Err r) = refused (refusal_number r.refusal) r.block

-- what reading gives: that, and the room, with the events at its front
pub record Reading : Type 0 where
  pub summary : Summary
  pub room : List ℕ

abbrev pub reading_of : Summary → List ℕ → Reading
reading_of s room = record { summary = s; room = room }

unfoldable pub read : List ℕ → List ℕ → Reading
read t room =
    let s = look t (length room) in
    reading_of s (if eqb s.number 0 then store room 0 (event_bytes t) else room)
