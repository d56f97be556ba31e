-- 01, "Window and descriptor": "A descriptor is 16 bytes, four little-endian 32-bit words in this order: control, start
-- address, next descriptor, packet status." The first three of them; the fourth is crate packet_status. Each definition
-- takes the window's base, the lent memory and the descriptor's address. Bit positions are chapter 8's (docs/REGISTERS.md).
-- Assumes nothing.
use Rattle.std.specs.Prelude.{ℕ, ◌+◌, ◌%◌, Bool, List}
use Rattle.rules.specs.Bit.{bit}
use Rattle.memory.specs.Memory.{word}
use Rattle.address.specs.Address.{place_of}
use Rattle.window.specs.Window.{offset}

-- "The control word holds the transfer count (12 bits, 0 to 4,095; zero means zero) .."
unfoldable pub count : ℕ → List ℕ → ℕ → ℕ
count base m d = word m (offset base d) % 4096

-- ".. and the next-enable bit", NXT_EN, bit 14
unfoldable pub next_enabled : ℕ → List ℕ → ℕ → Bool
next_enabled base m d = bit 14 (word m (offset base d))

-- the start address word, whole: a set low bit is a buffer fault
unfoldable pub start : ℕ → List ℕ → ℕ → ℕ
start base m d = word m (offset base d + 4)

-- the next descriptor word, whole
unfoldable pub next_word : ℕ → List ℕ → ℕ → ℕ
next_word base m d = word m (offset base d + 8)

-- the place of the next descriptor: "The low bits of the next word are ignored." Amended by 02, Wish 5: "RM0006 has a next-polling
-- enable in the next word's low bits, unread so far", which is read apart (`polls`); of the place they are no part
unfoldable pub next : ℕ → List ℕ → ℕ → ℕ
next base m d = place_of (next_word base m d)
