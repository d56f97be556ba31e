-- 01, "Reading a delivered frame". Each definition takes the window's base and length, the lent memory and a descriptor
-- address. Assumes nothing.
use Rattle.std.specs.Prelude.{ℕ, ◌-◌, Bool, not, ◌&&◌, List, [], eqb, take, drop}
use Rattle.std.specs.Prelude.{if◌then◌else◌}
use Rattle.window.specs.Window.{lent, offset, in_window}
use Rattle.address.specs.Address.{aligned}
use Rattle.descriptor.specs.Descriptor.{start}
use Rattle.packet_status.specs.PacketStatus.{granted, frame_length}
use Rattle.frame.specs.Length.{length_allowed}

-- "It is shown exactly if the descriptor lies in the window at a multiple of 4, is returned for receiving, its start word
-- has clear low bits, its status length is 64 to 1,518 and the frame's bytes lie in the window."
unfoldable pub shown : ℕ → ℕ → List ℕ → ℕ → Bool
shown base window m d =
    aligned d && in_window base window d 16 && not (granted base m d) && aligned (start base m d)
    && length_allowed (frame_length base m d) && in_window base window (start base m d) (frame_length base m d)

-- "Reading: 11, 13."
unfoldable pub reading_number : ℕ → ℕ → List ℕ → ℕ → ℕ
reading_number base window m d =
    if not (lent window m) then 11 else
    if not (shown base window m d) then 13 else
    0

-- "the caller gets back the part of the lent window that holds the frame without its last four bytes"; refused: empty part
unfoldable pub reading : ℕ → ℕ → List ℕ → ℕ → List ℕ
reading base window m d =
    if eqb (reading_number base window m d) 0
    then take (frame_length base m d - 4) (drop (offset base (start base m d)) m)
    else []
