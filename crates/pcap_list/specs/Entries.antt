-- docs/CAPTURE.md, "The list of frames": frames, each with its time, as one string of bytes. Assumes nothing.
use Rattle.std.specs.Prelude.{ℕ, ◌+◌, Bool, List, [], ◌∷◌, ◌++◌, map, eqb, ltb, length, drop, Result, Ok, Err}
use Rattle.std.specs.Prelude.{if◌then◌else◌}
use Rattle.memory.specs.Memory.{word, word_bytes}
use Rattle.pieces.specs.Pieces.{pieces, sizes}
use Rattle.pcap.specs.Capture.{Captured}

-- ---- made

-- seconds, microseconds, the length of the frame
unfoldable pub entry_head : ℕ → ℕ → ℕ → List ℕ
entry_head seconds microseconds n = word_bytes seconds ++ (word_bytes microseconds ++ word_bytes n)

-- and the frame, from destination address to check sequence
unfoldable pub entry_bytes : Captured → List ℕ
entry_bytes c = entry_head c.seconds c.microseconds (length c.frame) ++ c.frame

unfoldable pub list_bytes : List Captured → List ℕ
list_bytes [] = []
list_bytes (c ∷ cs) = entry_bytes c ++ list_bytes cs

-- ---- read

-- how many bytes the entry at the front has, 0 where it is not whole: 12, and so many as it says
unfoldable pub entry_size : List ℕ → ℕ
entry_size s =
    if ltb (length s) 12 then 0 else
    if ltb (length s) (12 + word s 8) then 0 else
    12 + word s 8

-- what an entry says
abbrev pub entry_of : List ℕ → Captured
entry_of x = record { seconds = word x 0; microseconds = word x 4; frame = drop 12 x }

-- the whole entries of a list
unfoldable pub entries_of : List ℕ → List Captured
entries_of list = map entry_of (pieces entry_size list)

-- a list "of its form": whole entries, and nothing behind the last
unfoldable pub of_its_form : List ℕ → Bool
of_its_form list = eqb (sizes (pieces entry_size list)) (length list)

-- ---- as the code answers it

-- whether a list is of its form, and how many whole entries it has
abbrev pub listed : List ℕ → Result ℕ ℕ
listed list = if of_its_form list then Ok (length (entries_of list)) else Err (length (entries_of list))
