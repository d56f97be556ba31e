-- The first bad block by what two passes found: the first block that is wrong by itself, and how the events before it end.
-- Assumes nothing.
use Rattle.std.specs.Prelude.{ℕ, ◌+◌, ◌-◌, ◌/◌, Result, Ok, Err, eqb}
use Rattle.std.specs.Prelude.{if◌then◌else◌}
use Rattle.answer.specs.Refusals.{refusal_number}
use Rattle.event.specs.declared.Ending.{Ending}
use Rattle.event.specs.declared.Ending.TheVariants.{Whole, Cut, NoEvent}
use Rattle.stream.specs.declared.Refused.{Refused}
use Rattle.stream.specs.Blocks.{Fault}
use Rattle.stream.specs.Stream.{header_length}

abbrev pub verdict : ℕ → ℕ → Fault
verdict number block = record { number = number; block = block }

-- the block of a byte that no event can have, else the block that is wrong by itself, else the last where an event is cut
unfoldable pub events_fault : Ending → ℕ → Fault → Fault
events_fault NoEvent place f = verdict 22 ((header_length + place) / 504)
events_fault Cut place f = if eqb f.number 0 then verdict 22 (f.block - 1) else f
events_fault Whole place f = if eqb f.number 0 then verdict 0 0 else f

-- as the code answers it: no bad block, or the first
abbrev pub bad_of : {T : Type 0} → Result T Refused → Fault
bad_of (Ok _) = verdict 0 0
bad_of (Err r) = verdict (refusal_number r.refusal) r.block
