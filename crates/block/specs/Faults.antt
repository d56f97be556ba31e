-- 02, Wish 4: what is wrong with a block by itself, "tested in the order length of block, number, check, used length, zero fill";
-- "Each reason .. takes its own next number from 17 as named". Assumes nothing.
use Rattle.std.specs.Prelude.{ℕ, Bool, true, not, ◌&&◌, ◌||◌, List, [], ◌∷◌, eqb, ltb, length}
use Rattle.std.specs.Prelude.{if◌then◌else◌}
use Rattle.block.specs.Fields.{block_number, used_length, unused_data, stored_check, check_of}

-- "used length (1 to 504)"; "only the last may be part-filled"
unfoldable pub used_fault : Bool → ℕ → Bool
used_fault last used = eqb used 0 || ltb 504 used || (not last && ltb used 504)

-- "unused ones zero"
unfoldable pub all_zero : List ℕ → Bool
all_zero [] = true
all_zero (byte ∷ bytes) = eqb byte 0 && all_zero bytes

-- the first fault of the block that should have number k, or 0. Its number has 16 bits, so none matches a k over 65,535
unfoldable pub block_fault : Bool → ℕ → List ℕ → ℕ
block_fault last k b =
    if not (eqb (length b) 512) then 17 else
    if not (eqb (block_number b) k) then 18 else
    if not (eqb (stored_check b) (check_of b)) then 19 else
    if used_fault last (used_length b) then 20 else
    if not (all_zero (unused_data b)) then 21 else
    0
