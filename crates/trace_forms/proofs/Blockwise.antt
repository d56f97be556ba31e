-- Blocks that are made of a string of bytes, read again: block by block, and as one string. Assumes nothing.
use Prim.Native.Nat.{ℕ, zero, suc, ◌+◌, ◌*◌, ◌≤◌, ◌<◌}
use mathlib.Core.Path.{◌≡◌, refl, sym, ap, ◌∙◌}
use mathlib.Core.Bool.{false}
use mathlib.Core.Logic.{inl, inr}
use mathlib.Core.List.{List, ◌++◌}
use native.Mathlib.Omega.{arith}
use native.Mathlib.Nat.{add-zero}
use lib.ListN.{length, take, drop, length-take, length-drop}
use lib.Seq.{take_all, take_at, take-add, drop_at, drop-drop}
use borrow.Author.Tests.{ne_eqb, eqb-false}
use Rattle.rules.proofs.Choices.{by_bool}
use Rattle.block.specs.Made.{block_of}
use Rattle.block.proofs.Blocks.{length_block}
use Rattle.block_forms.proofs.Back.{made_back}
use Rattle.block_forms.proofs.Good.{made_good}
use Rattle.stream.specs.Blocks.{block_at, block_count, is_last, fault_at, Sound}
use Rattle.stream.specs.Stream.{stream}
use Rattle.trace_writing.specs.Made.{blocks_for, blocks_of}
use Rattle.trace_writing.proofs.Putting.{length_blocks}

-- the bytes of s that block k has
abbrev pub share : List ℕ → ℕ → List ℕ
share s k = take 504 (drop (504 * k) s)

block_of_lem : (n j k : ℕ) (s : List ℕ) → k < n → take 512 (drop (512 * k) (blocks_of j n s)) ≡ block_of (j + k) (share s k)
unfolding blocks_of
block_of_lem zero j k s h = absurd (omega arith)
block_of_lem (suc n) j zero s h = rw add-zero (take_at (block_of j (take 504 s)) (blocks_of (j + 1) n (drop 504 s)) 512 (length_block j (take 504 s)))
block_of_lem (suc n) j (suc k) s h =
    let b = block_of j (take 504 s) in
    let r = blocks_of (j + 1) n (drop 504 s) in
    let a₁ : 512 + 512 * k ≡ 512 * suc k = omega arith in
    let a₂ : 504 + 504 * k ≡ 504 * suc k = omega arith in
    let a₃ : j + 1 + k ≡ j + suc k = omega arith in
    let behind : drop (512 * suc k) (b ++ r) ≡ drop (512 * k) r =
    rw (← a₁, ← drop-drop (512 * k) 512 (b ++ r), drop_at b r 512 (length_block j (take 504 s))) in
    let i = block_of_lem n (j + 1) k (drop 504 s) (omega arith) in
    ap (take 512) behind ∙ i ∙ rw (drop-drop (504 * k) 504 s, a₂, a₃)

module _ (s : List ℕ) (n : ℕ) (is : n ≡ blocks_for (length s)) (some : 0 < length s) where
  abbrev made : List ℕ
  made = blocks_of 0 n s

  -- each byte has a block, and each block has a byte
  enough : length s ≤ 504 * n
  unfolding blocks_for
  enough = omega arith

  most : (k : ℕ) → k < n → 504 * k < length s
  unfolding blocks_for
  most k h = omega arith

  -- as many as were made
  pub count_made : block_count (length made) ≡ n
  unfolding block_count
  count_made =
      let l = length_blocks n 0 s in
      let e = enough in
      rw (ne_eqb (length made) 0 (λ q. omega arith)) (omega arith)

  block_made : (k : ℕ) → k < n → block_at made k ≡ block_of k (share s k)
  unfolding block_at
  block_made k h = block_of_lem n 0 k s h ∙ ap (λ (m : ℕ). block_of m (share s k)) (omega arith)

  share_fits : (k : ℕ) → length (share s k) ≤ 504
  share_fits k = omega (arith, length-take 504 (drop (504 * k) s))

  -- the used data of the first k blocks
  stream_made : (k : ℕ) → k ≤ n → stream made k ≡ take (504 * k) s
  unfolding stream
  stream_made zero h = refl
  stream_made (suc k) h =
      let a : 504 * k + 504 ≡ 504 * suc k = omega arith in
      rw (stream_made k (omega arith), block_made k h, (made_back k (share s k) (share_fits k)).same, ← a) (sym (take-add (504 * k) 504 s))

  pub all_made : stream made n ≡ s
  all_made = stream_made n (omega arith) ∙ take_all (504 * n) s enough

  -- all but the last are full
  full : (k : ℕ) → k < n → is_last made k ≡ false → length (share s k) ≡ 504
  unfolding is_last
  full k h t =
      let q = eqb-false (k + 1) (block_count (length made)) t in
      let c = count_made in
      let m = most (k + 1) (omega arith) in
      let d = length-drop (504 * k) s in
      length-take 504 (drop (504 * k) s) ∙ omega arith

  -- none has a fault of its own
  pub sound_made : n ≤ 65536 → Sound made n
  unfolding fault_at
  sound_made few k h =
      let l = length-take 504 (drop (504 * k) s) in
      let d = length-drop (504 * k) s in
      let m = most k h in
      rw (block_made k h)
      (made_good (is_last made k) k (share s k) (omega arith) (omega arith) (omega arith)
      (by_bool (is_last made k) (λ t. inl t) (λ t. inr (full k h t))))
