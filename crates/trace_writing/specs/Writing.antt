-- 02, Wish 4: "Writing is refused exactly if its event list is not of its form in docs/, if base and length are no allowed window,
-- or if over 65,536 blocks or more room than lent is needed"; each refusal "takes its own next number .. as named, is tested in
-- that order and changes nothing". Assumes nothing.
use Rattle.std.specs.Prelude.{ℕ, ◌+◌, ◌*◌, Bool, true, false, not, List, Result, Ok, Err, eqb, ltb, length}
use Rattle.std.specs.Prelude.{if◌then◌else◌}
use Rattle.answer.specs.declared.Refusal.{Refusal}
use Rattle.answer.specs.Refusals.{refusal_number}
use Rattle.memory.specs.Memory.{store}
use Rattle.window.specs.Window.{window_allowed}
use Rattle.event.specs.Walk.{walk}
use Rattle.event.specs.declared.Ending.{Ending}
use Rattle.event.specs.declared.Ending.TheVariants.{Whole, Cut, NoEvent}
use Rattle.trace_writing.specs.Made.{blocks_for, trace_of}

-- an event list "of its form": whole events and nothing behind them
abbrev pub is_whole : Ending → Bool
is_whole Whole = true
is_whole Cut = false
is_whole NoEvent = false

-- how many blocks a window and its events need
abbrev pub needed : List ℕ → ℕ
needed events = blocks_for (6 + length events)

-- into a room of so many bytes
unfoldable pub write_number : ℕ → ℕ → List ℕ → ℕ → ℕ
write_number base window events room =
    if not (is_whole (walk events).ending) then 25 else
    if not (window_allowed base window) then 26 else
    if ltb 65536 (needed events) then 27 else
    if ltb room (512 * needed events) then 28 else
    0

-- a trace that was written: 0 and how many blocks, or the number of the refusal and none
pub record Written : Type 0 where
  pub number : ℕ
  pub blocks : ℕ

-- as the code answers it
abbrev pub written_of : Result ℕ Refusal → Written
written_of (Ok blocks) = record { number = 0; blocks = blocks }
written_of (Err refusal) = record { number = refusal_number refusal; blocks = 0 }

-- what writing gives: its number, how many blocks, and the room, with the blocks at its front
pub record Writing : Type 0 where
  pub written : Written
  pub room : List ℕ

abbrev pub writing_of : Written → List ℕ → Writing
writing_of w room = record { written = w; room = room }

unfoldable pub write : ℕ → ℕ → List ℕ → List ℕ → Writing
write base window events room =
    let n = write_number base window events (length room) in
    if eqb n 0
    then writing_of (record { number = 0; blocks = needed events }) (store room 0 (trace_of base window events))
    else writing_of (record { number = n; blocks = 0 }) room
