-- 01, "Window and descriptor": the window, and what lies in it. Assumes nothing.
use Rattle.std.specs.Prelude.{ℕ, ◌+◌, ◌-◌, ◌%◌, ◌^◌, Bool, ◌&&◌, List, eqb, leb, length}
use Rattle.address.specs.Address.{aligned}

-- "The window is lent memory of 64 to 65,536 bytes, a multiple of 4, seen by the device from a base address that is a
-- multiple of 4. Base plus length is at most 2^32."
unfoldable pub window_allowed : ℕ → ℕ → Bool
window_allowed base window =
    leb 64 window && leb window 65536 && eqb (window % 4) 0 && eqb (base % 4) 0 && leb (base + window) (2 ^ 32)

-- row 11 speaks of "lent memory not of the window's length"
unfoldable pub lent : ℕ → List ℕ → Bool
lent window m = eqb (length m) window

-- where an address lies in the lent memory; 0 for one below the base, which no call reads
abbrev pub offset : ℕ → ℕ → ℕ
offset base address = address - base

-- the n bytes from an address on lie in the window
unfoldable pub in_window : ℕ → ℕ → ℕ → ℕ → Bool
in_window base window address n = leb base address && leb (address + n) (base + window)

-- row 13 speaks of a "descriptor not at a multiple of 4 or not all in the window"; a descriptor is 16 bytes
unfoldable pub holds_descriptor : ℕ → ℕ → ℕ → Bool
holds_descriptor base window address = aligned address && in_window base window address 16
