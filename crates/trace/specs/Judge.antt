-- 02, Wish 4: "the first bad block with its reason, tested in the order length of block, number, check, used length, zero fill,
-- event". Assumes nothing.
use Rattle.std.specs.Prelude.{ℕ, zero, suc, ◌+◌, Bool, true, false, not, ◌||◌, List, eqb, ltb, length}
use Rattle.std.specs.Prelude.{if◌then◌else◌}
use Rattle.rules.specs.Choice.{◌otherwise◌}
use Rattle.window.specs.Window.{window_allowed}
use Rattle.event.specs.Walk.{walk}
use Rattle.event.specs.declared.Ending.{Ending}
use Rattle.event.specs.declared.Ending.TheVariants.{Whole, Cut, NoEvent}
use Rattle.stream.specs.Blocks.{Fault, block_count, is_last, fault_at}
use Rattle.stream.specs.Stream.{stream, base_of, window_of, header_length, events_of}

-- "a header cut or not allowed is an event fault"
unfoldable pub header_fault : List ℕ → Bool
header_fault s = ltb (length s) header_length || not (window_allowed (base_of s) (window_of s))

-- "A byte no event can have there is its block's fault, a cut event the last block's"
abbrev pub ending_fault : Bool → Ending → Bool
ending_fault last Whole = false
ending_fault last Cut = last
ending_fault last NoEvent = true

-- of the used data up to a block's end. A byte in an earlier block has made that one bad
unfoldable pub event_fault : Bool → List ℕ → Bool
event_fault last s = header_fault s || ending_fault last (walk (events_of s)).ending

-- why the block at place k is bad, or 0: its faults by itself, then its events, which are those of the blocks up to it
unfoldable pub reason : List ℕ → ℕ → ℕ
reason t k = fault_at t k otherwise (if event_fault (is_last t k) (stream t (k + 1)) then 22 else 0)

-- the first of n blocks from place k on that is bad, and its reason; or 0 and 0
unfoldable pub first_bad_from : List ℕ → ℕ → ℕ → Fault
first_bad_from t k zero = record { number = 0; block = 0 }
first_bad_from t k (suc n) = if eqb (reason t k) 0 then first_bad_from t (k + 1) n else record { number = reason t k; block = k }

unfoldable pub first_bad : List ℕ → Fault
first_bad t = first_bad_from t 0 (block_count (length t))
