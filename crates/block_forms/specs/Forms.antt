-- 02, Wish 4, of one block: what is written, "reading returns the same"; and what is read with no fault is, byte for byte, what is
-- written. Assumes nothing.
use Rattle.std.specs.Prelude.{ℕ, ◌≤◌, ◌<◌, ◌≡◌, Bool, true, false, ◌⊎◌, List, length, get_or}
use Rattle.block.specs.Fields.{used_length, used_data}
use Rattle.block.specs.Faults.{block_fault}
use Rattle.block.specs.Made.{block_of}

-- each number of the list is a byte's
abbrev pub Bytes : List ℕ → Type 0
Bytes s = (i : ℕ) → get_or s i 0 < 256

-- a block that is made of 1 to 504 bytes, "only the last may be part-filled", has no fault under its number
abbrev pub MadeGood : Type 0
MadeGood =
    (last : Bool) (k : ℕ) (d : List ℕ)
    → k < 65536
    → 1 ≤ length d
    → length d ≤ 504
    → (last ≡ true) ⊎ (length d ≡ 504)
    → block_fault last k (block_of k d) ≡ 0

-- what is read of a block that is made of d
pub record Back (k : ℕ) (d : List ℕ) : Type 0 where
  pub same : used_data (block_of k d) ≡ d
  pub used : used_length (block_of k d) ≡ length d
  pub whole : length (block_of k d) ≡ 512

abbrev pub MadeBack : Type 0
MadeBack = (k : ℕ) (d : List ℕ) → length d ≤ 504 → Back k d

-- what a block is that has no fault under the number k
pub record Form (last : Bool) (k : ℕ) (b : List ℕ) : Type 0 where
  -- byte for byte the block that is made of its used data
  pub same : b ≡ block_of k (used_data b)
  pub number : k < 65536
  pub whole : length b ≡ 512
  -- "used length (1 to 504)"
  pub some : 1 ≤ used_length b
  pub room : used_length b ≤ 504
  pub used : length (used_data b) ≡ used_length b
  -- "only the last may be part-filled"
  pub full : last ≡ false → used_length b ≡ 504

abbrev pub OneForm : Type 0
OneForm = (last : Bool) (k : ℕ) (b : List ℕ) → Bytes b → block_fault last k b ≡ 0 → Form last k b
