-- 01, "Window and descriptor": the buffer of a descriptor. Assumes nothing.
use Rattle.std.specs.Prelude.{ℕ, Bool, false, not, ◌||◌, eqb, ltb}
use Rattle.std.specs.Prelude.{if◌then◌else◌}
use Rattle.address.specs.Address.{apart, aligned}
use Rattle.window.specs.Window.{in_window}

-- ".. bytes outside the window or sharing a byte with their own descriptor", of n bytes from an address on; none has no fault
unfoldable pub bytes_fault : ℕ → ℕ → ℕ → ℕ → ℕ → Bool
bytes_fault base window d from n =
    if eqb n 0 then false else (not (in_window base window from n) || not (apart from n d 16))

-- "A receive buffer fault means a set low bit, a count below the frame's length, or frame bytes outside the window or
-- sharing a byte with their own descriptor. For sending the same holds over the count's bytes; a count of 0 has none, so
-- only a set low bit faults." d is the descriptor's address, from its start word, n the frame's length or the count
unfoldable pub buffer_fault : ℕ → ℕ → ℕ → ℕ → ℕ → ℕ → Bool
buffer_fault base window d from room n = not (aligned from) || ltb room n || bytes_fault base window d from n
