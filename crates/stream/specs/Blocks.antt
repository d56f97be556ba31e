-- 02, Wish 4: "A trace is blocks of 512 bytes". Assumes nothing.
use Rattle.std.specs.Prelude.{ℕ, zero, suc, ◌+◌, ◌*◌, ◌/◌, ◌<◌, ◌≡◌, Bool, List, Result, Ok, Err, eqb, length, take, drop}
use Rattle.std.specs.Prelude.{if◌then◌else◌}
use Rattle.block.specs.Faults.{block_fault}
use Rattle.stream.specs.declared.Refused.{Refused}
use Rattle.answer.specs.Refusals.{refusal_number}

-- the block at place k; at the end it may be short
unfoldable pub block_at : List ℕ → ℕ → List ℕ
block_at t k = take 512 (drop (512 * k) t)

-- how many there are; "an empty file is a bad block 0 by its length"
unfoldable pub block_count : ℕ → ℕ
block_count bytes = if eqb bytes 0 then 1 else (bytes + 511) / 512

-- "only the last may be part-filled"
unfoldable pub is_last : List ℕ → ℕ → Bool
is_last t k = eqb (k + 1) (block_count (length t))

-- what is wrong with the block at place k by itself, or 0
unfoldable pub fault_at : List ℕ → ℕ → ℕ
fault_at t k = block_fault (is_last t k) k (block_at t k)

-- a bad block and the number of its fault; 0 where there is none
pub record Fault : Type 0 where
  pub number : ℕ
  pub block : ℕ

-- the first of n blocks from place k on that is wrong by itself, and its fault; or the place behind them, and 0
unfoldable pub first_fault : List ℕ → ℕ → ℕ → Fault
first_fault t k zero = record { number = 0; block = k }
first_fault t k (suc n) =
    if eqb (fault_at t k) 0 then first_fault t (k + 1) n else record { number = fault_at t k; block = k }

-- the first n blocks have no fault of their own
abbrev pub Sound : List ℕ → ℕ → Type 0
Sound t n = (k : ℕ) → k < n → fault_at t k ≡ 0

-- as the code answers it: the first bad block, or how many blocks there are
abbrev pub fault_of : Result ℕ Refused → Fault
fault_of (Ok blocks) = record { number = 0; block = blocks }
fault_of (Err r) = record { number = refusal_number r.refusal; block = r.block }
