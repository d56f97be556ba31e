-- 01, "Histories": when a frame lies whole in a granted buffer. Assumes nothing.
use Rattle.std.specs.Prelude.{ℕ, ◌≡◌, true, List, length, take, drop}
use Rattle.window.specs.Window.{offset, in_window}
use Rattle.descriptor.specs.Descriptor.{start}
use Rattle.packet_status.specs.PacketStatus.{packet_status}
use Rattle.reason.specs.Status.{delivered_status}
use Rattle.address_rule.specs.AddressRule.{address_rule}
use Rattle.calls.specs.Calls.{Bench}

-- "A frame lies whole in a granted buffer if .." d is the granted descriptor's address
pub record LiesWhole (b : Bench) (d : ℕ) (frame : List ℕ) : Type 0 where
  -- "the window holds all its bytes from the granted descriptor's start address on": they lie in it, and are the frame's
  pub inside : in_window b.device.base b.device.window (start b.device.base b.memory d) (length frame) ≡ true
  pub bytes : take (length frame) (drop (offset b.device.base (start b.device.base b.memory d)) b.memory) ≡ frame
  -- "that descriptor's packet status holds its length", 02: and the bit of the reason for which the address rule takes it, by the
  -- filter registers, which no list writes; all other bits are 0
  pub status : packet_status b.device.base b.memory d ≡ delivered_status (address_rule b.device.registers.filter frame) (length frame)
