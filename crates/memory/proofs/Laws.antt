-- What the functions of this crate leave, as their definitions say it. Assumes nothing.
use mathlib.Core.Path.{◌≡◌, refl, sym, ap, ◌∙◌}
use mathlib.Core.List.{List, [], ◌∷◌, ◌++◌}
use Prim.Native.Nat.{ℕ, suc, ◌+◌, ◌-◌, ◌/◌, ◌^◌, ◌≤◌, ◌<◌}
use native.Mathlib.Nat.{add-zero, add-suc, suc-add}
use native.Mathlib.Numerals.{add-one}
use native.Mathlib.Omega.{arith}
use lib.ListN.{length, get_or, take, drop, set, length-take, length-drop, get_or-eq_default}
use lib.Seq.{sets, sets-eq, length-sets, drop-cons, set_out}
use Rattle.std.specs.Prelude.{min}
use Rattle.std.proofs.Common.{take-append-drop}
use Rattle.std.proofs.lemmas.List.{append_assoc}
use borrow.Rule.Slice.PartMut.{put_mid, Post-is}
use Rattle.std.specs.Int.{w32, to_le_bytes, from_le_bytes}
use Rattle.memory.specs.Memory.{word, word_bytes, store, store_word}

-- a store that begins past the end
sets_out : (s m : List ℕ) (at : ℕ) → length m ≤ at → sets m at s ≡ m
sets_out [] m at h = refl
sets_out (x ∷ s) m at h = rw (set_out m at x h) (sets_out s m (suc at) (omega arith))

-- a store of nothing, or past the end
sets_none : (s m : List ℕ) (at : ℕ) → (0 < length s → length m ≤ at) → sets m at s ≡ m
sets_none [] m at h = refl
sets_none (x ∷ s) m at h = sets_out (x ∷ s) m at (h (omega arith))

-- a turn of the loop that stores s from an offset on
pub sets_turn : (m s : List ℕ) (at i : ℕ) → i < length s
    → sets (set m (at + i) (get_or s i 0)) (at + (i + 1)) (drop (i + 1) s) ≡ sets m (at + i) (drop i s)
sets_turn m s at i h = simp (add-one, add-suc, drop-cons s i 0 h)

-- what that loop leaves: no byte is left, or none has room, and the bytes of s stand from the offset on
pub all_stored : (m o s : List ℕ) (at i n : ℕ) → length o ≡ length m → n ≤ i → n ≡ min (length s) (length m - at)
    → sets o (at + i) (drop i s) ≡ sets m at s → o ≡ store m at s
unfolding store
all_stored m o s at i n l h w e = sym (sets_none (drop i s) o (at + i) (λ k. omega (arith, length-drop i s))) ∙ e

pub sets_append : (a b m : List ℕ) (at : ℕ) → sets (sets m at a) (at + length a) b ≡ sets m at (a ++ b)
sets_append [] b m at = rw add-zero
sets_append (x ∷ a) b m at = rw (add-suc at (length a), ← suc-add at (length a)) (sets_append a b (set m at x) (suc at))

-- of s only as many bytes are stored as have room
sets_room : (m s : List ℕ) (at n : ℕ) → n ≡ min (length s) (length m - at) → sets m at (take n s) ≡ sets m at s
sets_room m s at n e =
    let l : length (take n s) ≡ n = simp length-take (omega arith) in
    let none : sets (sets m at (take n s)) (at + length (take n s)) (drop n s) ≡ sets m at (take n s) =
    sets_none (drop n s) (sets m at (take n s)) (at + length (take n s))
    (λ h. omega (arith, length-sets m at (take n s), length-drop n s)) in
    sym none ∙ sets_append (take n s) (drop n s) m at ∙ ap (λ (l : List ℕ). sets m at l) (take-append-drop n s)

-- these bytes moved at once
pub moved : (m s p : List ℕ) (at n : ℕ) → at ≤ length m → n ≡ min (length s) (length m - at) → p ≡ take n s
    → put_mid at (at + n - at) m p ≡ store m at s
unfolding store
moved m s p at n h e i =
    let l : length (take n s) ≡ n = simp length-take (omega arith) in
    let q : sets m at (take n s) ≡ take at m ++ take n s ++ drop (at + n) m =
    sets-eq (take n s) m at (omega arith) ∙ ap (λ (k : ℕ). take at m ++ take n s ++ drop (at + k) m) l in
    rw (i, Post-is at (at + n) m (omega arith)) (sym (append_assoc (take at m) (take n s) (drop (at + n) m)) ∙ sym q ∙ sets_room m s at n e)

pub store_out : (m : List ℕ) (at : ℕ) (s : List ℕ) → length m ≤ at → m ≡ store m at s
unfolding store
store_out m at s h = sym (sets_out s m at h)

-- the four bytes of a word, the lowest first
pub word_read : (m : List ℕ) (at a b c d r : ℕ) → a ≡ get_or m at 0 → b ≡ get_or m (at + 1) 0 → c ≡ get_or m (at + 2) 0 → d ≡ get_or m (at + 3) 0
    → r ≡ from_le_bytes w32 (a ∷ b ∷ c ∷ d ∷ []) → r ≡ word m at
unfolding word
word_read m at a b c d r ea eb ec ed e = rw (← ea, ← eb, ← ec, ← ed) (omega (arith, e))

-- a word that begins past the end
pub word_out : (m : List ℕ) (at : ℕ) → length m ≤ at → word m at ≡ 0
unfolding word
word_out m at h =
    rw (
      get_or-eq_default m 0 {n = at} h,
      get_or-eq_default m 0 {n = at + 1} (omega arith),
      get_or-eq_default m 0 {n = at + 2} (omega arith),
      get_or-eq_default m 0 {n = at + 3} (omega arith),
    )

-- the bytes of a word, as std has them
word_bytes_is : (v : ℕ) → to_le_bytes w32 v ≡ word_bytes v
unfolding word_bytes
word_bytes_is v =
    let two : v / 256 ^ 2 ≡ v / 256 / 256 = omega arith in
    let three : v / 256 ^ 3 ≡ v / 256 / 256 / 256 = omega arith in
    rw (two, three)

-- one by one
pub word_stored : (m o b : List ℕ) (at v i : ℕ) → b ≡ to_le_bytes w32 v → 4 ≤ i → sets o (at + i) (drop i b) ≡ sets m at b → o ≡ store_word m at v
unfolding store
word_stored m o b at v i e h s =
    let none : sets o (at + i) (drop i b) ≡ o = sets_none (drop i b) o (at + i) (λ k. omega (arith, length-drop i b, ap length e)) in
    sym none ∙ s ∙ ap (λ (l : List ℕ). sets m at l) (e ∙ word_bytes_is v)

-- the four at once
pub word_moved : (m p : List ℕ) (at v : ℕ) → at + 4 ≤ length m → p ≡ to_le_bytes w32 v → put_mid at (at + 4 - at) m p ≡ store_word m at v
word_moved m p at v h e =
    moved m (to_le_bytes w32 v) p at 4 (omega arith) (omega arith) e ∙ ap (λ (l : List ℕ). store m at l) (word_bytes_is v)
