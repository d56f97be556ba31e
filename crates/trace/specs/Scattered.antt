-- The used data of a trace's blocks where it lies: the code tests the events in the trace itself, since a refusal leaves the room
-- as it was. Assumes nothing.
use Rattle.std.specs.Prelude.{ℕ, ◌+◌, ◌*◌, ◌-◌, ◌/◌, ◌%◌, List, get_or}
use Rattle.memory.specs.Memory.{word_of}
use Rattle.event.specs.Sizes.{size_by}

-- byte p of the used data of full blocks
unfoldable pub byte_in : List ℕ → ℕ → ℕ
byte_in t p = get_or t (512 * (p / 504) + 4 + p % 504) 0

-- the number of four bytes from p on
unfoldable pub word_in : List ℕ → ℕ → ℕ
word_in t p = word_of (byte_in t p) (byte_in t (p + 1)) (byte_in t (p + 2)) (byte_in t (p + 3))

-- the size of the event at p, where the data has so many bytes
unfoldable pub size_in : List ℕ → ℕ → ℕ → ℕ
size_in t end p = size_by (byte_in t p) (word_in t (p + 1)) (end - p)
