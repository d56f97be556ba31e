-- 02, Wish 7, of import: "record by record, cut records and unequal lengths". Here of the bytes of a capture behind its header.
-- Assumes nothing.
use Rattle.std.specs.Prelude.{ℕ, ◌+◌, ◌^◌, Bool, true, not, ◌&&◌, ◌||◌, List, [], ◌∷◌, ◌++◌, map, eqb, ltb, length, drop, Option, None, Result, Ok, Err}
use Rattle.std.specs.Prelude.{if◌then◌else◌}
use Rattle.answer.specs.declared.Refusal.{Refusal}
use Rattle.answer.specs.Refusals.{refusal_number}
use Rattle.memory.specs.Memory.{word}
use Rattle.fcs.specs.CheckSequence.{check_sequence}
use Rattle.pieces.specs.Pieces.{pieces, behind}
use Rattle.pcap.specs.Capture.{Captured}
use Rattle.pcap_records.specs.declared.Walked.{Walked}
use Rattle.pcap_records.specs.declared.Wrong.{Wrong}

-- the record at the front is cut: in its 16 bytes, or in the bytes of its captured length behind them
unfoldable pub cut_record : List ℕ → Bool
cut_record s = ltb (length s) 16 || ltb (length s) (16 + word s 8)

-- its captured length and its original one are unequal
unfoldable pub unequal_lengths : List ℕ → Bool
unequal_lengths s = not (eqb (word s 8) (word s 12))

-- how many bytes it has, 0 where it is cut or its lengths are unequal
unfoldable pub record_size : List ℕ → ℕ
record_size s =
    if cut_record s then 0 else
    if unequal_lengths s then 0 else
    16 + word s 8

-- what is wrong with it: 35, 36, or 0 where nothing is wrong or no byte is left
unfoldable pub record_fault : List ℕ → ℕ
record_fault s =
    if eqb (length s) 0 then 0 else
    if cut_record s then 35 else
    if unequal_lengths s then 36 else
    0

-- of the first record that is wrong, or 0
unfoldable pub records_fault : List ℕ → ℕ
records_fault s = record_fault (behind record_size s)

-- ---- what the records say

-- "with the check sequence added"
abbrev pub with_check : List ℕ → List ℕ
with_check message = message ++ check_sequence message

abbrev pub captured_of : List ℕ → Captured
captured_of x = record { seconds = word x 0; microseconds = word x 4; frame = with_check (drop 16 x) }

unfoldable pub frames_of : List ℕ → List Captured
frames_of s = map captured_of (pieces record_size s)

-- a frame of a length that a frame event can hold, in 32 bits
unfoldable pub storable : List ℕ → Bool
storable frame = ltb (length frame) (2 ^ 32)

unfoldable pub all_storable : List Captured → Bool
all_storable [] = true
all_storable (c ∷ cs) = storable c.frame && all_storable cs

-- ---- as the code answers it

-- the size of what is right
abbrev pub size_of : Result (Option ℕ) Refusal → Option ℕ
size_of (Ok size) = size
size_of (Err refusal) = None

-- the number of the first record that is wrong, or 0, and what is before it
abbrev pub fault_of : Result Walked Wrong → ℕ
fault_of (Ok w) = 0
fault_of (Err wrong) = refusal_number wrong.refusal

abbrev pub reached : Result Walked Wrong → Walked
reached (Ok w) = w
reached (Err wrong) = wrong.before

-- the records that are right before the first that is wrong, or all
abbrev pub walked : List ℕ → Walked
walked s = record { frames = length (frames_of s); storable = all_storable (frames_of s) }
