-- 02, Wish 4: "Events are register write, grant, frame and single send; their layout is fixed in docs/ by the team, one byte
-- string for each event." docs/TRACE.md has the layout; all numbers have four bytes, the lowest first. Assumes nothing.
use Rattle.std.specs.Prelude.{ℕ, ◌+◌, List, [], ◌∷◌, ◌++◌, length}
use Rattle.memory.specs.Memory.{word_bytes}

pub data Event : Type 0 where
  register_write : (offset value : ℕ) → Event
  grant : (address : ℕ) → Event
  frame : (bytes : List ℕ) → Event
  send : Event

-- "one byte string for each event": its first byte says which it is
unfoldable pub bytes_of : Event → List ℕ
bytes_of (register_write offset value) = 1 ∷ word_bytes offset ++ word_bytes value
bytes_of (grant address) = 2 ∷ word_bytes address
bytes_of (frame bytes) = 3 ∷ word_bytes (length bytes) ++ bytes
bytes_of send = 4 ∷ []

-- how many bytes that are
abbrev pub size : Event → ℕ
size (register_write offset value) = 9
size (grant address) = 5
size (frame bytes) = 5 + length bytes
size send = 1

-- an event list as a string of bytes
unfoldable pub list_of : List Event → List ℕ
list_of [] = []
list_of (e ∷ es) = bytes_of e ++ list_of es

abbrev pub sizes : List Event → ℕ
sizes [] = 0
sizes (e ∷ es) = size e + sizes es
