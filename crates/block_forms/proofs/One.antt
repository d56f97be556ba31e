-- A block with no fault is the block that is made of its number and its used data. Assumes nothing.
use Prim.Native.Nat.{ℕ, ◌-◌, ◌≤◌, ◌<◌}
use mathlib.Core.Path.{◌≡◌, sym, ap, ap₂, ◌∙◌}
use mathlib.Core.Bool.{true}
use mathlib.Core.List.{List, ◌++◌}
use native.Mathlib.Omega.{arith}
use lib.ListN.{length, get_or, take, drop, replicate, length-drop, take-append-drop}
use lib.Seq.{length-take-le, take_all, take-add, get_or-drop}
use Rattle.memory.specs.Memory.{word, word_bytes}
use Rattle.block.specs.Fields.{block_number, used_length, data_of, used_data, unused_data, stored_check, check_of}
use Rattle.block.specs.Faults.{all_zero}
use Rattle.block.specs.Made.{half_bytes, filled, front_of, block_of}
use Rattle.block.proofs.Blocks.{front_is, length_front}
use Rattle.block.proofs.Right.{right, used_long}
use Rattle.block_forms.specs.Forms.{Bytes, OneForm}
use Rattle.block_forms.proofs.Lists.{zero_zeros, four_first, half_bytes_lem, word_bytes_lem}
use Rattle.block_forms.proofs.Back.{filled_parts, check_front}

number_small : (b : List ℕ) → Bytes b → block_number b < 65536
unfolding block_number
number_small b bytes = omega (arith, bytes 0, bytes 1)

module _ (b : List ℕ) (bytes : Bytes b) (whole : length b ≡ 512) where
  -- bytes 0 to 3
  head_is : take 4 b ≡ half_bytes (block_number b) ++ half_bytes (used_length b)
  unfolding block_number used_length
  head_is =
      four_first b (omega arith)
      ∙ sym
      (ap₂ (λ (x y : List ℕ). x ++ y) (half_bytes_lem (get_or b 0 0) (get_or b 1 0) (bytes 0) (bytes 1))
      (half_bytes_lem (get_or b 2 0) (get_or b 3 0) (bytes 2) (bytes 3)))

  -- bytes 508 to 511
  tail_is : drop 508 b ≡ word_bytes (stored_check b)
  unfolding stored_check word
  tail_is =
      let l : length (drop 508 b) ≡ 4 = length-drop 508 b ∙ omega arith in
      sym (take_all 4 (drop 508 b) (omega arith))
      ∙ four_first (drop 508 b) (omega arith)
      ∙ rw (get_or-drop 508 b 0 0, get_or-drop 508 b 1 0, get_or-drop 508 b 2 0, get_or-drop 508 b 3 0)
      (sym (word_bytes_lem (get_or b 508 0) (get_or b 509 0) (get_or b 510 0) (get_or b 511 0) (bytes 508) (bytes 509) (bytes 510) (bytes 511)))

  length_data : length (data_of b) ≡ 504
  unfolding data_of
  length_data = length-take-le 504 (drop 4 b) (omega (arith, length-drop 4 b))

  module _ (room : used_length b ≤ 504) where
    length_used : length (used_data b) ≡ used_length b
    length_used = used_long b whole room

    length_unused : length (unused_data b) ≡ 504 - length (used_data b)
    unfolding unused_data
    length_unused = length-drop (used_length b) (data_of b) ∙ rw (length_data, length_used)

    data_parts : data_of b ≡ used_data b ++ unused_data b
    unfolding used_data unused_data
    data_parts = sym (take-append-drop (used_length b) (data_of b))

    module _ (fill : all_zero (unused_data b) ≡ true) where
      -- bytes 4 to 507
      data_is : data_of b ≡ filled (used_data b)
      data_is =
          let zeros : unused_data b ≡ replicate (504 - length (used_data b)) 0 =
          zero_zeros (unused_data b) fill ∙ ap (λ (n : ℕ). replicate n 0) length_unused in
          data_parts
          ∙ ap (λ (l : List ℕ). used_data b ++ l) zeros
          ∙ sym (filled_parts (used_data b) (omega (arith, length_used)))

      -- bytes 0 to 507
      front : take 508 b ≡ front_of (block_number b) (used_data b)
      unfolding data_of
      front =
          take-add 4 504 b
          ∙ ap₂ (λ (x y : List ℕ). x ++ y) (head_is ∙ ap (λ (n : ℕ). half_bytes (block_number b) ++ half_bytes n) (sym length_used)) data_is
          ∙ sym (front_is (block_number b) (used_data b))

      all_same : stored_check b ≡ check_of b → b ≡ block_of (block_number b) (used_data b)
      unfolding block_of
      all_same check =
          let f = front_of (block_number b) (used_data b) in
          sym (take-append-drop 508 b)
          ∙ ap₂ (λ (x y : List ℕ). x ++ y) front
          (tail_is ∙ ap word_bytes (check ∙ check_front b f front (length_front (block_number b) (used_data b))))

pub one_form : OneForm
one_form last k b bytes e =
    let r = right last k b e in
    record {
      same = all_same b bytes r.long r.fits r.fill r.check ∙ ap (λ (n : ℕ). block_of n (used_data b)) r.number;
      number = rw r.number at (number_small b bytes);
      whole = r.long;
      some = r.some;
      room = r.fits;
      used = used_long b r.long r.fits;
      full = r.full;
    }
