-- Laws of a block that is made of its number and its used data: its zero fill, its check, its stores. Assumes nothing.
use Prim.Native.Nat.{ℕ, zero, suc, ◌+◌, ◌-◌, ◌≤◌, ◌<◌}
use mathlib.Core.Path.{◌≡◌, refl, sym, ap, ◌∙◌}
use mathlib.Core.List.{List, [], ◌∷◌, ◌++◌, append_assoc}
use native.Mathlib.Nat.{suc-sub-suc, sub-zero}
use native.Mathlib.Omega.{arith}
use lib.ListN.{length, take, drop, replicate, length-take, length-drop, length-append, length-replicate}
use Rattle.memory.specs.Memory.{store, store_word, word_bytes}
use Rattle.memory.proofs.Laws.{store_out}
use Rattle.memory.proofs.Stores.{length_word_bytes, length_store, part_back, store_append}
use Rattle.block.specs.Fields.{check_of}
use Rattle.block.specs.Made.{half_bytes, filled, front_of, block_of}

-- a part of at most n bytes
pub part_small : (p s : List ℕ) (n : ℕ) → p ≡ take n s → length p ≤ n
part_small p s n e = rw e (simp length-take (omega arith))

-- ---- The zero fill

take_zeros : (n m : ℕ) → n ≤ m → take n (replicate {A = ℕ} m 0) ≡ replicate n 0
take_zeros zero m h = refl
take_zeros (suc n) zero h = absurd (omega arith)
take_zeros (suc n) (suc m) h = ap (λ (l : List ℕ). 0 ∷ l) (take_zeros n m (omega arith))

fill : (n m : ℕ) (s : List ℕ) → n ≤ m → take n (s ++ replicate m 0) ≡ take n s ++ replicate (n - length (take n s)) 0
fill zero m s h = refl
fill (suc n) m [] h = rw (sub-zero (suc n)) (take_zeros (suc n) m h)
fill (suc n) m (x ∷ s) h = rw (suc-sub-suc n (length (take n s))) (ap (λ (l : List ℕ). x ∷ l) (fill n m s (omega arith)))

-- the used data as far as there is room for it, and zeros behind it
pub filled_is : (s : List ℕ) → filled s ≡ take 504 s ++ replicate (504 - length (take 504 s)) 0
unfolding filled
filled_is s = fill 504 504 s (omega arith)

pub length_filled : (s : List ℕ) → length (filled s) ≡ 504
length_filled s =
    rw (filled_is s, length-append (take 504 s) (replicate (504 - length (take 504 s)) 0), length-replicate {A = ℕ} (504 - length (take 504 s)) 0)
    (omega (arith, part_small (take 504 s) s 504 refl))

-- ---- Bytes 0 to 507

pub front_is : (k : ℕ) (s : List ℕ) → front_of k s ≡ (half_bytes k ++ half_bytes (length s)) ++ filled s
unfolding front_of
front_is k s = sym (append_assoc (half_bytes k) (half_bytes (length s)) (filled s))

pub length_halves : (a b : ℕ) → length (half_bytes a ++ half_bytes b) ≡ 4
unfolding half_bytes
length_halves a b = refl

pub length_front : (k : ℕ) (s : List ℕ) → length (front_of k s) ≡ 508
length_front k s =
    rw (front_is k s, length-append (half_bytes k ++ half_bytes (length s)) (filled s), length_halves k (length s), length_filled s)

pub length_block : (k : ℕ) (s : List ℕ) → length (block_of k s) ≡ 512
unfolding block_of
length_block k s =
    length-append (front_of k s) (word_bytes (check_of (front_of k s)))
    ∙ omega (arith, length_front k s, length_word_bytes (check_of (front_of k s)))

-- ---- What is put

module _ (k : ℕ) (s head kept : List ℕ) (eh : head ≡ half_bytes k ++ half_bytes (length s)) (ek : kept ≡ take 504 s) where
  abbrev zeros : List ℕ
  zeros = replicate (504 - length kept) 0

  front_parts : front_of k s ≡ head ++ (kept ++ zeros)
  front_parts = rw (eh, ek) (front_is k s ∙ ap (λ (l : List ℕ). (half_bytes k ++ half_bytes (length s)) ++ l) (filled_is s))

  length_head : length head ≡ 4
  length_head = rw eh (length_halves k (length s))

  pub front_put : (m m₁ m₂ m₃ : List ℕ) (at : ℕ) → m₁ ≡ store m at head → m₂ ≡ store m₁ (at + 4) kept
      → m₃ ≡ store m₂ (at + 4 + length kept) (replicate (504 - length kept) 0) → m₃ ≡ store m at (front_of k s)
  front_put m m₁ m₂ m₃ at e₁ e₂ e₃ =
      let j₁ : at + 4 ≡ at + length head = omega (arith, length_head) in
      let s₂ : m₂ ≡ store m at (head ++ kept) = rw (e₂, e₁) (store_append m at (at + 4) head kept j₁) in
      let j₂ : at + 4 + length kept ≡ at + length (head ++ kept) = omega (arith, length_head, length-append head kept) in
      rw (e₃, s₂) (store_append m at (at + 4 + length kept) (head ++ kept) zeros j₂ ∙ ap (store m at) (append_assoc head kept zeros ∙ sym front_parts))

-- the check behind bytes 0 to 507
module _ (k : ℕ) (s m m₁ : List ℕ) (at : ℕ) (e : m₁ ≡ store m at (front_of k s)) where
  check_put : (m₂ : List ℕ) (check : ℕ) → check ≡ check_of (front_of k s) → m₂ ≡ store_word m₁ (at + 508) check → m₂ ≡ store m at (block_of k s)
  unfolding block_of
  check_put m₂ check c e₂ =
      let j : at + 508 ≡ at + length (front_of k s) = omega (arith, length_front k s) in
      rw (e₂, e, c) (store_append m at (at + 508) (front_of k s) (word_bytes (check_of (front_of k s))) j)

  -- it has no place
  pub put_short : length m₁ - at < 508 → m₁ ≡ store m at (block_of k s)
  put_short h = check_put m₁ _ refl (store_out m₁ (at + 508) (word_bytes (check_of (front_of k s))) (omega arith))

  -- it is read of them in the room
  pub put_whole : (p m₂ : List ℕ) (check : ℕ) → 508 ≤ length m₁ - at → p ≡ take 508 (drop at m₁) → check ≡ check_of p
      → m₂ ≡ store_word m₁ (at + 508) check → m₂ ≡ store m at (block_of k s)
  put_whole p m₂ check h ep c e₂ =
      let l = length_front k s in
      let long : length m₁ ≡ length m = rw e (length_store m at (front_of k s)) in
      let back : take (length (front_of k s)) (drop at (store m at (front_of k s))) ≡ front_of k s = part_back m at (front_of k s) (omega arith) in
      let there : p ≡ front_of k s = ep ∙ rw e (rw l at back) in
      check_put m₂ check (rw (c, there)) e₂

-- a part that is all there
pub part_long : (p s : List ℕ) (at n : ℕ) → p ≡ take n (drop at s) → n ≤ length s - at → length p ≡ n
part_long p s at n e h = rw e (simp (length-take, length-drop) (omega arith))

pub part_long_enough : (p s : List ℕ) (at n : ℕ) → p ≡ take n (drop at s) → n ≤ length s - at → n ≤ length p
part_long_enough p s at n e h = omega (arith, part_long p s at n e h)
