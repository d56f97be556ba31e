-- 02, Wish 4: "Events may cross blocks": the used data of a trace's blocks as one string of bytes. Assumes nothing.
use Rattle.std.specs.Prelude.{ℕ, zero, suc, ◌+◌, List, [], ◌++◌, length, drop}
use Rattle.memory.specs.Memory.{word}
use Rattle.block.specs.Fields.{half, used_data}
use Rattle.stream.specs.Blocks.{block_at, block_count}

-- the used data of the first n blocks, one behind the other
unfoldable pub stream : List ℕ → ℕ → List ℕ
stream t zero = []
stream t (suc n) = stream t n ++ used_data (block_at t n)

-- "Block 0 starts with the base address in 32 bits and the window length less one in 16"
unfoldable pub base_of : List ℕ → ℕ
base_of s = word s 0

unfoldable pub window_of : List ℕ → ℕ
window_of s = half s 4 + 1

-- so many bytes are that header
abbrev pub header_length : ℕ
header_length = 6

-- the events behind it
abbrev pub events_of : List ℕ → List ℕ
events_of s = drop header_length s

-- the events of a whole trace
unfoldable pub event_bytes : List ℕ → List ℕ
event_bytes t = events_of (stream t (block_count (length t)))
