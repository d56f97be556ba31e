-- The frame rule of memory: a store changes no byte outside it, and reads back where it stored; two stores in a row are one. Assumes nothing.
use Prim.Native.Nat.{ℕ, zero, suc, ◌+◌, ◌/◌, ◌%◌, ◌^◌, ◌≤◌, ◌<◌}
use mathlib.Core.Path.{◌≡◌, refl, ◌∙◌}
use mathlib.Core.Logic.{◌⊎◌, inl, inr, ⊎_elim}
use mathlib.Core.List.{List, [], ◌∷◌, ◌++◌}
use native.Mathlib.Omega.{arith}
use native.Mathlib.Nat.{add-zero, add-suc, suc-add, not-suc-le-zero}
use lib.ListN.{length, get_or, take, drop, set, length-set, length-take, length-drop}
use lib.Seq.{sets, length-sets, get_or-set_other, get_or-set_same, ext_get_or, get_or-take, get_or-drop}
use Rattle.memory.proofs.Laws.{sets_append}
use Rattle.memory.specs.Memory.{word, word_bytes, store, store_word}

-- n bytes from a on and k bytes from b on share none
abbrev pub Apart : ℕ → ℕ → ℕ → ℕ → Type 0
Apart a n b k = (a + n ≤ b) ⊎ (b + k ≤ a)

out : (s m : List ℕ) (i j : ℕ) → Apart j 1 i (length s) → get_or (sets m i s) j 0 ≡ get_or m j 0
out [] m i j h = refl
out (x ∷ s) m i j h =
    out s (set m i x) (suc i) j (⊎_elim (λ l. inl (omega arith)) (λ r. inr (omega arith)) h)
    ∙ get_or-set_other m i j x 0 (⊎_elim (λ l. omega arith) (λ r. omega arith) h)

back : (s m : List ℕ) (i k : ℕ) → k < length s → i + length s ≤ length m → get_or (sets m i s) (i + k) 0 ≡ get_or s k 0
back [] m i k h fits = absurd (not-suc-le-zero h)
back (x ∷ s) m i zero h fits = rw add-zero (out s (set m i x) (suc i) i (inl (omega arith)) ∙ get_or-set_same m i x 0 (omega arith))
back (x ∷ s) m i (suc k) h fits =
    rw (add-suc i k, ← suc-add i k) (back s (set m i x) (suc i) k (omega arith) (rw (length-set m i x) (omega arith)))

pub length_word_bytes : (v : ℕ) → length (word_bytes v) ≡ 4
unfolding word_bytes
length_word_bytes v = refl

module _ (m : List ℕ) (at : ℕ) (s : List ℕ) where
  pub length_store : length (store m at s) ≡ length m
  unfolding store
  length_store = length-sets m at s

  -- a byte apart from a store
  pub byte_apart : (j : ℕ) → Apart j 1 at (length s) → get_or (store m at s) j 0 ≡ get_or m j 0
  unfolding store
  byte_apart j h = out s m at j h

  -- a byte of a store
  pub byte_back : (k : ℕ) → k < length s → at + length s ≤ length m → get_or (store m at s) (at + k) 0 ≡ get_or s k 0
  unfolding store
  byte_back k h fits = back s m at k h fits

  -- a word apart from a store
  pub word_apart : (j : ℕ) → Apart j 4 at (length s) → word (store m at s) j ≡ word m j
  unfolding word
  word_apart j h =
      let z0 : Apart j 1 at (length s) = ⊎_elim (λ a. inl (omega arith)) (λ a. inr (omega arith)) h in
      let z : (k : ℕ) → k < 4 → Apart (j + k) 1 at (length s) = λ k l. ⊎_elim (λ a. inl (omega arith)) (λ a. inr (omega arith)) h in
      rw (byte_apart j z0, byte_apart (j + 1) (z 1 (omega arith)), byte_apart (j + 2) (z 2 (omega arith)), byte_apart (j + 3) (z 3 (omega arith)))

  -- n bytes apart from a store
  pub part_apart : (j n : ℕ) → Apart j n at (length s) → take n (drop j (store m at s)) ≡ take n (drop j m)
  part_apart j n h =
      ext_get_or 0 _ _ (simp (length-take, length-drop, length_store))
      (λ k l.
      let l2 : k < n = omega (arith, rw length-take at l) in
      rw (get_or-take n (drop j (store m at s)) k 0, get_or-take n (drop j m) k 0, get_or-drop j (store m at s) k 0, get_or-drop j m k 0)
      (byte_apart (j + k) (⊎_elim (λ a. inl (omega arith)) (λ a. inr (omega arith)) h)))

  -- what was stored
  pub part_back : at + length s ≤ length m → take (length s) (drop at (store m at s)) ≡ s
  part_back fits =
      let same : length (take (length s) (drop at (store m at s))) ≡ length s = simp (length-take, length-drop, length_store) (omega arith) in
      ext_get_or 0 (take (length s) (drop at (store m at s))) s same
      (λ k l.
      rw (get_or-take (length s) (drop at (store m at s)) k 0 (omega arith), get_or-drop at (store m at s) k 0) (byte_back k (omega arith) fits))

-- a store right behind another
pub store_append : (m : List ℕ) (at next : ℕ) (a b : List ℕ) → next ≡ at + length a → store (store m at a) next b ≡ store m at (a ++ b)
unfolding store
store_append m at next a b e = rw e (sets_append a b m at)

-- a word of 32 bits reads back
pub word_back : (m : List ℕ) (at v : ℕ) → v < 2 ^ 32 → at + 4 ≤ length m → word (store_word m at v) at ≡ v
unfolding word word_bytes
word_back m at v small fits =
    let b0 : get_or (store_word m at v) (at + 0) 0 ≡ v % 256 = byte_back m at (word_bytes v) 0 (omega arith) fits in
    let b1 : get_or (store_word m at v) (at + 1) 0 ≡ v / 256 % 256 = byte_back m at (word_bytes v) 1 (omega arith) fits in
    let b2 : get_or (store_word m at v) (at + 2) 0 ≡ v / 256 / 256 % 256 = byte_back m at (word_bytes v) 2 (omega arith) fits in
    let b3 : get_or (store_word m at v) (at + 3) 0 ≡ v / 256 / 256 / 256 % 256 = byte_back m at (word_bytes v) 3 (omega arith) fits in
    let c0 : get_or (store_word m at v) at 0 ≡ v % 256 = rw add-zero at b0 in
    rw (c0, b1, b2, b3) (omega arith)

-- a word of the same four bytes
pub word_same : (m n : List ℕ) (at : ℕ) → ((i : ℕ) → i < 4 → get_or n (at + i) 0 ≡ get_or m (at + i) 0) → word n at ≡ word m at
unfolding word
word_same m n at h =
    let h0 : get_or n at 0 ≡ get_or m at 0 = rw add-zero at (h 0 (omega arith)) in
    rw (h0, h 1 (omega arith), h 2 (omega arith), h 3 (omega arith))
