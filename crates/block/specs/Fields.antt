-- 02, Wish 4: "A trace is blocks of 512 bytes: 2 bytes of block number from 0, 2 bytes of used length (1 to 504), 504 bytes of
-- event data with unused ones zero, 4 bytes of check, all numbers little-endian." A block as a list of bytes; a byte past its
-- end reads 0. Assumes nothing.
use Rattle.std.specs.Prelude.{ℕ, ◌+◌, ◌*◌, ◌%◌, List, [], ◌∷◌, get_or, take, drop}
use Rattle.memory.specs.Memory.{word}

-- the number of two bytes at an offset, the lowest first
abbrev pub half : List ℕ → ℕ → ℕ
half b at = get_or b at 0 + 256 * get_or b (at + 1) 0

-- "2 bytes of block number"
unfoldable pub block_number : List ℕ → ℕ
block_number b = half b 0

-- "2 bytes of used length"
unfoldable pub used_length : List ℕ → ℕ
used_length b = half b 2

-- "504 bytes of event data", the used ones and the others
unfoldable pub data_of : List ℕ → List ℕ
data_of b = take 504 (drop 4 b)

unfoldable pub used_data : List ℕ → List ℕ
used_data b = take (used_length b) (data_of b)

unfoldable pub unused_data : List ℕ → List ℕ
unused_data b = drop (used_length b) (data_of b)

-- "4 bytes of check": the whole number of 32 bits
unfoldable pub stored_check : List ℕ → ℕ
stored_check b = word b 508

-- "byte times (position plus one)", summed over a list whose first byte stands at a position
unfoldable pub weighted : ℕ → List ℕ → ℕ
weighted position [] = 0
weighted position (byte ∷ bytes) = byte * (position + 1) + weighted (position + 1) bytes

-- "The check is the sum over bytes 0 to 507 of byte times (position plus one), modulo 65,521."
unfoldable pub check_of : List ℕ → ℕ
check_of b = weighted 0 (take 508 b) % 65521
