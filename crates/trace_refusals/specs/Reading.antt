-- 02, Wish 4, of reading: each reason and refusal "takes its own next number from 17 as named, is tested in that order and changes
-- nothing". Assumes nothing.
use Rattle.std.specs.Prelude.{ℕ, ◌+◌, ◌≤◌, ◌<◌, ◌≡◌, true, false, ◌⊎◌, List, length}
use Rattle.block.specs.Fields.{block_number, used_length, unused_data, stored_check, check_of}
use Rattle.block.specs.Faults.{used_fault, all_zero}
use Rattle.stream.specs.Blocks.{block_at, block_count, is_last}
use Rattle.stream.specs.Stream.{stream, event_bytes}
use Rattle.trace.specs.Judge.{event_fault, reason}
use Rattle.trace.specs.Reading.{refused, given, look, read}

-- ---- why a block is bad

-- the situation of each reason, in which it is given and no other; 0 where the block is not bad
abbrev pub Because : List ℕ → ℕ → ℕ → Type 0
Because t k n =
    let b = block_at t k in
    let long = length b ≡ 512 in
    let numbered = block_number b ≡ k in
    let checked = stored_check b ≡ check_of b in
    let used = used_fault (is_last t k) (used_length b) in
    let filled = all_zero (unused_data b) in
    let event = event_fault (is_last t k) (stream t (k + 1)) in
    ((long → ⊥) × (n ≡ 17))
    ⊎ ((long × (numbered → ⊥) × (n ≡ 18))
    ⊎ ((long × numbered × (checked → ⊥) × (n ≡ 19))
    ⊎ ((long × numbered × checked × (used ≡ true) × (n ≡ 20))
    ⊎ ((long × numbered × checked × (used ≡ false) × (filled ≡ false) × (n ≡ 21))
    ⊎ ((long × numbered × checked × (used ≡ false) × (filled ≡ true) × (event ≡ true) × (n ≡ 22))
    ⊎ (long × numbered × checked × (used ≡ false) × (filled ≡ true) × (event ≡ false) × (n ≡ 0)))))))

abbrev pub ReasonsExactly : Type 0
ReasonsExactly = (t : List ℕ) (k : ℕ) → Because t k (reason t k)

-- ---- what a trace says

-- no block is bad
abbrev pub Good : List ℕ → Type 0
Good t = (k : ℕ) → k < block_count (length t) → reason t k ≡ 0

-- block k is the first bad one: its reason is n, one of 17 to 22
pub record FirstBad (t : List ℕ) (n k : ℕ) : Type 0 where
  pub there : k < block_count (length t)
  pub before : (j : ℕ) → j < k → reason t j ≡ 0
  pub bad : reason t k ≡ n
  pub least : 17 ≤ n
  pub most : n ≤ 22

-- a trace says one of three things to a reader with room for so many bytes: its window and events; 23, where no block is bad and
-- they do not fit; the number and the place of its first bad block
abbrev pub Says : List ℕ → ℕ → Type 0
Says t room =
    (Good t × (length (event_bytes t) ≤ room) × (look t room ≡ given t))
    ⊎ ((Good t × (room < length (event_bytes t)) × (look t room ≡ refused 23 0))
    ⊎ (FirstBad t (look t room).number (look t room).block × (look t room ≡ refused (look t room).number (look t room).block)))

-- for every trace and every room
abbrev pub Exactly : Type 0
Exactly = (t : List ℕ) (room : ℕ) → Says t room

-- a refusal leaves the room as it was
abbrev pub ChangesNothing : Type 0
ChangesNothing = (t room : List ℕ) → ((read t room).summary.number ≡ 0 → ⊥) → (read t room).room ≡ room
