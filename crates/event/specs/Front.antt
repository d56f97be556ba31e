-- 02, Wish 4: what stands at the front of a string of bytes. "A byte no event can have there", and "a cut event", are no event.
-- Assumes nothing.
use Rattle.std.specs.Prelude.{ℕ, ◌+◌, List, eqb, ltb, length, get_or, take, drop}
use Rattle.std.specs.Prelude.{if◌then◌else◌}
use Rattle.memory.specs.Memory.{word}
use Rattle.event.specs.Event.{Event, register_write, grant, frame, send}
use Rattle.event.specs.declared.Found.{Found}
use Rattle.event.specs.declared.Found.TheVariants.{RegisterWrite, Grant, Frame, Send, Cut, NoEvent}

pub data Front : Type 0 where
  whole : Event → Front
  cut : Front
  no_event : Front

-- an event of n bytes, if so many are there
abbrev pub whole_or : ℕ → List ℕ → Event → Front
whole_or n s e = if ltb (length s) n then cut else whole e

-- a frame: "03, the number of its bytes in 4 bytes, the bytes"
unfoldable pub frame_front : List ℕ → Front
frame_front s = if ltb (length s) 5 then cut else whole_or (5 + word s 1) s (frame (take (word s 1) (drop 5 s)))

-- by its first byte; of no bytes, every event is cut
unfoldable pub front : List ℕ → Front
front s =
    if eqb (length s) 0 then cut else
    if eqb (get_or s 0 0) 1 then whole_or 9 s (register_write (word s 1) (word s 5)) else
    if eqb (get_or s 0 0) 2 then whole_or 5 s (grant (word s 1)) else
    if eqb (get_or s 0 0) 3 then frame_front s else
    if eqb (get_or s 0 0) 4 then whole send else
    no_event

-- ---- as the code answers it

-- the case of the code's enum for what stands at a place of a list: a frame by where its bytes lie there, and how many they are
abbrev pub found : ℕ → Front → Found
found place (whole (register_write offset value)) = RegisterWrite offset value
found place (whole (grant address)) = Grant address
found place (whole (frame bytes)) = Frame (place + 5) (length bytes)
found place (whole send) = Send
found place cut = Cut
found place no_event = NoEvent
