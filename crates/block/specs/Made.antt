-- 02, Wish 4: the block that is made of a number and its used data. Assumes nothing.
use Rattle.std.specs.Prelude.{ℕ, ◌/◌, ◌%◌, List, [], ◌∷◌, ◌++◌, length, take, replicate}
use Rattle.memory.specs.Memory.{word_bytes}
use Rattle.block.specs.Fields.{check_of}

-- the two bytes of a number, the lowest first
unfoldable pub half_bytes : ℕ → List ℕ
half_bytes v = v % 256 ∷ v / 256 % 256 ∷ []

-- "504 bytes of event data with unused ones zero"
unfoldable pub filled : List ℕ → List ℕ
filled used = take 504 (used ++ replicate 504 0)

-- bytes 0 to 507
unfoldable pub front_of : ℕ → List ℕ → List ℕ
front_of k used = half_bytes k ++ (half_bytes (length used) ++ filled used)

-- the block of number k whose used data these are. Of no bytes, of more than 504, and of a number over 65,535, no block can be
-- made that reads back without a fault: nothing asks for one
unfoldable pub block_of : ℕ → List ℕ → List ℕ
block_of k used = front_of k used ++ word_bytes (check_of (front_of k used))
