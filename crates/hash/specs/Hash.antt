-- 02, "Multicast by hash": whether the hash registers take a group address. Assumes nothing.
use Rattle.std.specs.Prelude.{ℕ, ◌+◌, ◌*◌, ◌%◌, ◌^◌, Bool, List, [], ◌∷◌, length, take}
use Rattle.rules.specs.Bit.{bit}
use Rattle.std.specs.Prelude.{if◌then◌else◌}
use Rattle.fcs.specs.CheckSequence.{digit}
use Rattle.fcs.specs.Polynomial.{register_bits}

-- bits as a number, "highest first"
abbrev pub highest_first : List Bool → ℕ
highest_first [] = 0
highest_first (b ∷ bs) = digit b * 2 ^ length bs + highest_first bs

-- "Unless chapter 8 says more, the hash index is the six highest powers of the uncomplemented 802.3 register over the destination, highest first."
unfoldable pub hash_index : List ℕ → ℕ
hash_index destination = highest_first (take 6 (register_bits destination))

-- Chapter 8 says more (RM0006 8.4.25): "The MSB bit selects the Hash table registers (0 => HLT, 1 => HHT)." HHT is multicast hash high (ENET_MCHA),
-- HLT multicast hash low (ENET_MCLA).
abbrev pub hash_table : ℕ → ℕ → ℕ → ℕ
hash_table high low index = if bit 5 index then high else low

-- "The 5 LSB bits select the n-bit (0 ..31) of the Hash table register (HLT or HHT depending on the MSB bit). If the selected n-bit is '1' then the
-- multicast frame is accepted, else it's refused."
unfoldable pub hash_accepts : ℕ → ℕ → List ℕ → Bool
hash_accepts high low destination = bit (hash_index destination % 32) (hash_table high low (hash_index destination))
