-- What the filter registers say. Assumes nothing.
use Rattle.std.specs.Prelude.{ℕ, ◌/◌, ◌%◌, Bool, List, [], ◌∷◌}
use Rattle.rules.specs.Bit.{bit}

-- "receive-all set": RA, bit 31 of MAC control (RM0006 8.4.21)
abbrev pub receive_all : ℕ → Bool
receive_all control = bit 31 control

-- the filter mode: AFM, bits 19:17 of MAC control (RM0006 8.4.21)
abbrev pub filter_mode : ℕ → ℕ
filter_mode control = control / 0x2_0000 % 8

-- "the station address": MAC address low holds the four bytes that are sent first, MAC address high the other two, in each the first byte the least
-- significant (RM0006 8.4.22, 8.4.23 and Figure 59 of 8.2.1; docs/DECISIONS.md, D34)
abbrev pub station_address : ℕ → ℕ → List ℕ
station_address high low =
    low % 0x100 ∷ low / 0x100 % 0x100 ∷ low / 0x1_0000 % 0x100 ∷ low / 0x100_0000 % 0x100
    ∷ high % 0x100 ∷ high / 0x100 % 0x100 ∷ []
