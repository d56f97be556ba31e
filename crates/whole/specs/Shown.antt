-- 01, "Reading a delivered frame", of a frame that lies whole in a granted buffer. 02 puts the reason for which it was taken beside its length; a reading
-- of its descriptor gives it all the same. Assumes nothing.
use Rattle.std.specs.Prelude.{ℕ, ◌-◌, ◌≡◌, true, List, length, take}
use Rattle.address.specs.Address.{aligned}
use Rattle.window.specs.Window.{lent, in_window}
use Rattle.descriptor.specs.Descriptor.{start}
use Rattle.frame.specs.Length.{length_allowed}
use Rattle.reading.specs.Reading.{reading}
use Rattle.calls.specs.Calls.{Bench}
use Rattle.whole.specs.Whole.{LiesWhole}

-- what "It is shown exactly if" asks for beside the packet status word and the frame's bytes
pub record MayShow (b : Bench) (d : ℕ) (frame : List ℕ) : Type 0 where
  pub memory : lent b.device.window b.memory ≡ true
  pub place : aligned d ≡ true
  pub inside : in_window b.device.base b.device.window d 16 ≡ true
  pub flat : aligned (start b.device.base b.memory d) ≡ true
  pub long : length_allowed (length frame) ≡ true

-- "the part of the lent window that holds the frame without its last four bytes"
abbrev pub ShownWhole : Type 0
ShownWhole =
    (b : Bench) (d : ℕ) (frame : List ℕ) → LiesWhole b d frame → MayShow b d frame
    → reading b.device.base b.device.window b.memory d ≡ take (length frame - 4) frame
