-- Blocks one behind the other: how long they are, one more of them, and the loop that puts them. Assumes nothing.
use Prim.Native.Nat.{ℕ, zero, suc, ◌+◌, ◌*◌, ◌-◌, ◌≤◌, ◌<◌}
use mathlib.Core.Path.{◌≡◌, refl, sym, ap, ◌∙◌}
use mathlib.Core.List.{List, ◌++◌, append_assoc, append-nil}
use native.Mathlib.Omega.{arith}
use native.Mathlib.Nat.{add-zero}
use lib.ListN.{length, take, drop, length-append, length-take}
use lib.Seq.{drop-drop}
use Rattle.memory.specs.Memory.{word_bytes, store}
use Rattle.memory.proofs.Stores.{part_back, store_append}
use Rattle.block.specs.Made.{half_bytes, block_of}
use Rattle.block.proofs.Blocks.{length_block}
use Rattle.trace_writing.specs.Made.{stream_of, blocks_of}

pub length_blocks : (n k : ℕ) (s : List ℕ) → length (blocks_of k n s) ≡ 512 * n
unfolding blocks_of
length_blocks zero k s = refl
length_blocks (suc n) k s =
    length-append (block_of k (take 504 s)) (blocks_of (k + 1) n (drop 504 s))
    ∙ omega (arith, length_block k (take 504 s), length_blocks n (k + 1) (drop 504 s))

-- one more at the end
pub blocks_more : (n k : ℕ) (s : List ℕ) → blocks_of k (suc n) s ≡ blocks_of k n s ++ block_of (k + n) (take 504 (drop (504 * n) s))
unfolding blocks_of
blocks_more zero k s = rw add-zero (append-nil (block_of k (take 504 s)))
blocks_more (suc n) k s =
    let i = blocks_more n (k + 1) (drop 504 s) in
    let a : 504 + 504 * n ≡ 504 * suc n = omega arith in
    let d : drop (504 * n) (drop 504 s) ≡ drop (504 * suc n) s = drop-drop (504 * n) 504 s ∙ ap (λ (m : ℕ). drop m s) a in
    let e : k + 1 + n ≡ k + suc n = omega arith in
    ap (λ (l : List ℕ). block_of k (take 504 s) ++ l) (i ∙ rw (d, e))
    ∙ sym (append_assoc (block_of k (take 504 s)) (blocks_of (k + 1) n (drop 504 s)) (block_of (k + suc n) (take 504 (drop (504 * suc n) s))))

-- ---- the used data: block 0 has the header and 498 bytes of events

module _ (base window : ℕ) (events : List ℕ) where
  pub length_stream : length (stream_of base window events) ≡ 6 + length events
  unfolding stream_of word_bytes half_bytes
  length_stream = omega arith

  length_header : length (word_bytes base ++ half_bytes (window - 1)) ≡ 6
  unfolding word_bytes half_bytes
  length_header = refl

  stream_front : take 504 (stream_of base window events) ≡ (word_bytes base ++ half_bytes (window - 1)) ++ take 498 events
  unfolding stream_of word_bytes half_bytes
  stream_front = refl

  stream_behind : drop 504 (stream_of base window events) ≡ drop 498 events
  unfolding stream_of word_bytes half_bytes
  stream_behind = refl

  -- put together in a room of 504 bytes
  first_used : (room header kept room₁ room₂ part : List ℕ) → 504 ≡ length room → header ≡ word_bytes base ++ half_bytes (window - 1)
      → kept ≡ take 498 (drop 0 events) → room₁ ≡ store room 0 header → room₂ ≡ store room₁ 6 kept → part ≡ take (6 + length kept) (drop 0 room₂)
      → part ≡ take 504 (stream_of base window events)
  first_used room header kept room₁ room₂ part l eh ek e₁ e₂ ep =
      let lh : length header ≡ 6 = ap length eh ∙ length_header in
      let j : 6 ≡ 0 + length header = omega arith in
      let all = length-append header kept in
      let short = length-take 498 events in
      let lk = ap length ek in
      let n : 6 + length kept ≡ length (header ++ kept) = omega arith in
      let put : room₂ ≡ store room 0 (header ++ kept) = e₂ ∙ rw e₁ (store_append room 0 6 header kept j) in
      let back : part ≡ header ++ kept = ep ∙ rw (put, n) (part_back room 0 (header ++ kept) (omega arith)) in
      back ∙ rw (eh, ek) (sym stream_front)

  pub first_put : (m m₁ room header kept room₁ room₂ part : List ℕ) → 504 ≡ length room → header ≡ word_bytes base ++ half_bytes (window - 1)
      → kept ≡ take 498 (drop 0 events) → room₁ ≡ store room 0 header → room₂ ≡ store room₁ 6 kept → part ≡ take (6 + length kept) (drop 0 room₂)
      → m₁ ≡ store m 0 (block_of 0 part) → m₁ ≡ store m 0 (block_of 0 (take 504 (stream_of base window events)))
  first_put m m₁ room header kept room₁ room₂ part l eh ek e₁ e₂ ep em =
      em ∙ rw (first_used room header kept room₁ room₂ part l eh ek e₁ e₂ ep)

-- ---- the blocks behind block 0, put one behind the other: k blocks are there

abbrev pub Putting : List ℕ → List ℕ → ℕ → List ℕ → ℕ → Type 0
Putting events m blocks room k = (1 ≤ k) × ((k ≤ blocks) × (room ≡ store m 512 (blocks_of 1 (k - 1) (drop 498 events))))

module _ (events m : List ℕ) (blocks : ℕ) where
  pub putting_begins : 1 ≤ blocks → Putting events m blocks m 1
  unfolding blocks_of store
  putting_begins h = (omega arith, (h, refl))

  pub putting_on : (room next part : List ℕ) (k : ℕ) → Putting events m blocks room k → k < blocks → part ≡ take 504 (drop (504 * k - 6) events)
      → next ≡ store room (512 * k) (block_of k part) → Putting events m blocks next (k + 1)
  putting_on room next part k i l ep en =
      let some = i.0 in
      let rest = drop 498 events in
      let j : 512 * k ≡ 512 + length (blocks_of 1 (k - 1) rest) = omega (arith, length_blocks (k - 1) 1 rest) in
      let e₁ : k + 1 - 1 ≡ suc (k - 1) = omega arith in
      let e₂ : 1 + (k - 1) ≡ k = omega arith in
      let a : 498 + 504 * (k - 1) ≡ 504 * k - 6 = omega arith in
      let e₃ : drop (504 * (k - 1)) rest ≡ drop (504 * k - 6) events =
      drop-drop (504 * (k - 1)) 498 events ∙ ap (λ (n : ℕ). drop n events) a in
      let more : blocks_of 1 (k + 1 - 1) rest ≡ blocks_of 1 (k - 1) rest ++ block_of k part =
      rw e₁ (blocks_more (k - 1) 1 rest ∙ rw (e₂, e₃, ep)) in
      (omega arith, (omega arith, en ∙ rw i.1.1 (store_append m 512 (512 * k) (blocks_of 1 (k - 1) rest) (block_of k part) j ∙ rw more)))

  pub putting_ends : (room : List ℕ) (k : ℕ) → Putting events m blocks room k → blocks ≤ k → room ≡ store m 512 (blocks_of 1 (blocks - 1) (drop 498 events))
  putting_ends room k i l =
      let most = i.1.0 in
      let e : blocks ≡ k = omega arith in
      rw e i.1.1

-- block 0, and the others
pub all_put : (base window : ℕ) (events m m₁ m₂ : List ℕ) (blocks : ℕ) → 1 ≤ blocks → m₁ ≡ store m 0 (block_of 0 (take 504 (stream_of base window events)))
    → m₂ ≡ store m₁ 512 (blocks_of 1 (blocks - 1) (drop 498 events)) → m₂ ≡ store m 0 (blocks_of 0 blocks (stream_of base window events))
unfolding blocks_of
all_put base window events m m₁ m₂ blocks some e₁ e₂ =
    let s = stream_of base window events in
    let rest = blocks_of 1 (blocks - 1) (drop 498 events) in
    let j : 512 ≡ 0 + length (block_of 0 (take 504 s)) = omega (arith, length_block 0 (take 504 s)) in
    let b : suc (blocks - 1) ≡ blocks = omega arith in
    let all : block_of 0 (take 504 s) ++ rest ≡ blocks_of 0 blocks s =
    rw (← stream_behind base window events) (ap (λ (n : ℕ). blocks_of 0 n s) b) in
    e₂ ∙ rw e₁ (store_append m 0 512 (block_of 0 (take 504 s)) rest j ∙ rw all)
