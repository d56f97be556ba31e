-- Laws of strings of bytes: their parts, and the numbers in them. Assumes nothing.
use Prim.Native.Nat.{ℕ, ◌+◌, ◌/◌, ◌%◌, ◌^◌, ◌≤◌, ◌<◌}
use mathlib.Core.Path.{◌≡◌, sym, ap, ◌∙◌}
use mathlib.Core.List.{List, ◌++◌, append_assoc}
use native.Mathlib.Omega.{arith}
use lib.Dec.{ltb}
use lib.ListN.{length, get_or, take, drop, length-take, length-drop, take-append-drop, get_or-eq_default}
use lib.Seq.{get_or-drop, get_or-take, drop-drop}
use borrow.Author.Tests.{ltb-true, ltb-false}
use Rattle.rules.proofs.Choices.{by_bool}
use Rattle.memory.specs.Memory.{word_of, word, word_bytes}
use Rattle.block_forms.specs.Forms.{Bytes}
use Rattle.block_forms.proofs.Lists.{four_first, word_bytes_lem}
use Rattle.memory.proofs.Parts.{word_from}

-- the number of a number's four bytes
pub digits : (v : ℕ) → v < 2 ^ 32 → word_of (v % 256) (v / 256 % 256) (v / 256 / 256 % 256) (v / 256 / 256 / 256 % 256) ≡ v
digits v h = omega arith

pub bytes_drop : (n : ℕ) (s : List ℕ) → Bytes s → Bytes (drop n s)
bytes_drop n s b i = rw (get_or-drop n s i 0) (b (n + i))

-- past the end a byte reads 0
pub past : (s : List ℕ) (i : ℕ) → length s ≤ i → get_or s i 0 < 256
past s i h = rw (get_or-eq_default s 0 {n = i} h) (omega arith)

pub bytes_take : (n : ℕ) (s : List ℕ) → Bytes s → Bytes (take n s)
bytes_take n s b i =
    by_bool (ltb i n) (λ t. rw (get_or-take n s i 0 (ltb-true i n t)) (b i))
    (λ t.
    let h = ltb-false i n t in
    let l = length-take n s in
    past (take n s) i (omega arith))

module _ (s : List ℕ) (bytes : Bytes s) where
  pub word_small : (k : ℕ) → word s k < 2 ^ 32
  unfolding word
  word_small k = omega (arith, bytes k, bytes (k + 1), bytes (k + 2), bytes (k + 3))

  -- a word at the front, as its four bytes
  pub one_word : 4 ≤ length s → s ≡ word_bytes (word s 0) ++ drop 4 s
  unfolding word
  one_word h =
      sym (take-append-drop 4 s)
      ∙ ap (λ (l : List ℕ). l ++ drop 4 s)
      (four_first s h ∙ sym (word_bytes_lem (get_or s 0 0) (get_or s 1 0) (get_or s 2 0) (get_or s 3 0) (bytes 0) (bytes 1) (bytes 2) (bytes 3)))

-- two words
pub two_words : (s : List ℕ) → Bytes s → 8 ≤ length s → s ≡ (word_bytes (word s 0) ++ word_bytes (word s 4)) ++ drop 8 s
two_words s bytes h =
    let l = length-drop 4 s in
    let second : drop 4 s ≡ word_bytes (word s 4) ++ drop 8 s =
    one_word (drop 4 s) (bytes_drop 4 s bytes) (omega arith) ∙ rw (word_from s 4 0, drop-drop 4 4 s) in
    one_word s bytes (omega arith)
    ∙ ap (λ (r : List ℕ). word_bytes (word s 0) ++ r) second
    ∙ sym (append_assoc (word_bytes (word s 0)) (word_bytes (word s 4)) (drop 8 s))
