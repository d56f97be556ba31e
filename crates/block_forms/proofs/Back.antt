-- What is read of a block that is made: its number, its used data, its zero fill, its check. Assumes nothing.
use Prim.Native.Nat.{ℕ, ◌-◌, ◌/◌, ◌%◌, ◌^◌, ◌≤◌, ◌<◌}
use mathlib.Core.Path.{◌≡◌, refl, sym, ap, ◌∙◌}
use mathlib.Core.List.{List, [], ◌∷◌, ◌++◌}
use native.Mathlib.Omega.{arith}
use lib.ListN.{length, take, replicate}
use lib.Seq.{take_at, drop_at, take_all, get_or-append-add, get_or-append_seam}
use Rattle.memory.specs.Memory.{word, word_bytes}
use Rattle.block.specs.Fields.{block_number, used_length, data_of, used_data, unused_data, stored_check, weighted, check_of}
use Rattle.block.specs.Made.{half_bytes, filled, front_of, block_of}
use Rattle.block.proofs.Blocks.{filled_is, length_filled, length_front, length_block}
use Rattle.block_forms.specs.Forms.{MadeBack}

-- a word that stands behind other bytes
word_behind : (s : List ℕ) (v : ℕ) → v < 2 ^ 32 → word (s ++ word_bytes v) (length s) ≡ v
unfolding word word_bytes
word_behind s v h =
    rw (
      get_or-append_seam s (v % 256) (v / 256 % 256 ∷ v / 256 / 256 % 256 ∷ v / 256 / 256 / 256 % 256 ∷ []) 0,
      get_or-append-add s (word_bytes v) 1 0,
      get_or-append-add s (word_bytes v) 2 0,
      get_or-append-add s (word_bytes v) 3 0,
    )
    (omega arith)

check_small : (b : List ℕ) → check_of b < 2 ^ 32
unfolding check_of
check_small b = omega arith

-- the check is that of bytes 0 to 507
pub check_front : (b f : List ℕ) → take 508 b ≡ f → length f ≡ 508 → check_of b ≡ check_of f
unfolding check_of
check_front b f e l = ap (λ (s : List ℕ). weighted 0 s % 65521) (e ∙ sym (take_all 508 f (omega arith)))

-- used data that has room, and zeros behind it
pub filled_parts : (d : List ℕ) → length d ≤ 504 → filled d ≡ d ++ replicate (504 - length d) 0
filled_parts d room = filled_is d ∙ ap (λ (l : List ℕ). l ++ replicate (504 - length l) 0) (take_all 504 d room)

module _ (k : ℕ) (d : List ℕ) where
  pub number_back : k < 65536 → block_number (block_of k d) ≡ k
  unfolding block_number block_of front_of half_bytes
  number_back h = omega arith

  pub used_back : length d < 65536 → used_length (block_of k d) ≡ length d
  unfolding used_length block_of front_of half_bytes
  used_back h = omega arith

  data_back : data_of (block_of k d) ≡ filled d
  unfolding data_of block_of front_of half_bytes
  data_back = take_at (filled d) (word_bytes (check_of (front_of k d))) 504 (length_filled d)

  pub check_back : stored_check (block_of k d) ≡ check_of (block_of k d)
  unfolding stored_check block_of
  check_back =
      let f = front_of k d in
      ap (word (f ++ word_bytes (check_of f))) (sym (length_front k d))
      ∙ word_behind f (check_of f) (check_small f)
      ∙ sym (check_front (f ++ word_bytes (check_of f)) f (take_at f (word_bytes (check_of f)) 508 (length_front k d)) (length_front k d))

  module _ (room : length d ≤ 504) where
    pub used_data_back : used_data (block_of k d) ≡ d
    unfolding used_data
    used_data_back =
        rw (used_back (omega arith), data_back, filled_parts d room) (take_at d (replicate (504 - length d) 0) (length d) refl)

    pub unused_back : unused_data (block_of k d) ≡ replicate (504 - length d) 0
    unfolding unused_data
    unused_back =
        rw (used_back (omega arith), data_back, filled_parts d room) (drop_at d (replicate (504 - length d) 0) (length d) refl)

pub made_back : MadeBack
made_back k d room = record { same = used_data_back k d room; used = used_back k d (omega arith); whole = length_block k d }
