-- 01, "Window and descriptor": the packet status, the fourth word of a descriptor. Each definition takes the window's base,
-- the lent memory and the descriptor's address. Bit positions are chapter 8's (docs/REGISTERS.md). Assumes nothing.
use Rattle.std.specs.Prelude.{ℕ, ◌+◌, ◌%◌, Bool, List}
use Rattle.rules.specs.Bit.{bit}
use Rattle.memory.specs.Memory.{word, store_word}
use Rattle.window.specs.Window.{offset}

unfoldable pub packet_status : ℕ → List ℕ → ℕ → ℕ
packet_status base m d = word m (offset base d + 12)

-- ""Granted" means VALID stands at the level that RM0006 gives to the DMA for that direction; "returned" means the other
-- level": VALID is bit 16, and 1 is the DMA's level for both directions
unfoldable pub granted : ℕ → List ℕ → ℕ → Bool
granted base m d = bit 16 (packet_status base m d)

-- the frame length of a packet status, bits 10 to 0
unfoldable pub frame_length : ℕ → List ℕ → ℕ → ℕ
frame_length base m d = packet_status base m d % 2048

-- the memory with another packet status word
unfoldable pub with_packet_status : ℕ → List ℕ → ℕ → ℕ → List ℕ
with_packet_status base m d v = store_word m (offset base d + 12) v

-- "VALID granted, every other bit 0": the word that a grant writes
abbrev pub granted_status : ℕ
granted_status = 0x0001_0000
