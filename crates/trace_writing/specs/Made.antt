-- 02, Wish 4: the trace that is made of a window and an event list. Assumes nothing.
use Rattle.std.specs.Prelude.{ℕ, zero, suc, ◌+◌, ◌-◌, ◌/◌, List, [], ◌++◌, length, take, drop}
use Rattle.memory.specs.Memory.{word_bytes}
use Rattle.block.specs.Made.{half_bytes, block_of}

-- "Block 0 starts with the base address in 32 bits and the window length less one in 16", then come the events
unfoldable pub stream_of : ℕ → ℕ → List ℕ → List ℕ
stream_of base window events = word_bytes base ++ (half_bytes (window - 1) ++ events)

-- how many blocks so many bytes fill, "only the last may be part-filled"
unfoldable pub blocks_for : ℕ → ℕ
blocks_for n = (n + 503) / 504

-- n blocks from number k on
unfoldable pub blocks_of : ℕ → ℕ → List ℕ → List ℕ
blocks_of k zero bytes = []
blocks_of k (suc n) bytes = block_of k (take 504 bytes) ++ blocks_of (k + 1) n (drop 504 bytes)

unfoldable pub trace_of : ℕ → ℕ → List ℕ → List ℕ
trace_of base window events =
    let bytes = stream_of base window events in
    blocks_of 0 (blocks_for (length bytes)) bytes
