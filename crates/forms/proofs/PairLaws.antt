-- Laws of bytes in words: the turns of the loops over the characters and over the pairs. Assumes nothing.
use mathlib.Core.Path.{◌≡◌, refl, sym, ap, ◌∙◌}
use mathlib.Core.Bool.{Bool, true, false, not, false≢true, true≢false}
use mathlib.Core.List.{List, [], ◌∷◌}
use Prim.Native.Nat.{ℕ, suc, ◌+◌, ◌*◌, ◌/◌, ◌≤◌, ◌<◌}
use native.Mathlib.Numerals.{add-one}
use native.Mathlib.Omega.{arith}
use borrow.Author.Tests.{le-leb, lt-leb}
use lib.ListN.{length, get_or, set, drop, drop_of_length-le, length-drop}
use lib.Seq.{sets, drop-cons}
use Rattle.std.specs.Prelude.{Option, Some, None, is_some, unwrap_or, IfSome}
use Rattle.memory.specs.Memory.{store}
use Rattle.forms.specs.Numbers.{digit}
use Rattle.forms.specs.Pairs.{all_digits, byte_of, bytes_of, decoded, decode}

value_below : (o : Option ℕ) → IfSome o (λ d. d < 16) → is_some o ≡ true → unwrap_or o 16 < 16
value_below None l p = absurd (false≢true p)
value_below (Some d) l p = l

no_value : (o : Option ℕ) → is_some o ≡ false → 16 ≤ unwrap_or o 16
no_value None p = omega arith
no_value (Some d) p = absurd (true≢false p)

-- what a character of the word says, with its digit in hand
module _ (w : List ℕ) (i : ℕ) (so_far : all_digits w ≡ all_digits (drop i w)) (h : i < length w) (o : Option ℕ) (is : unwrap_or o 16 ≡ digit (get_or w i 0)) where
  pub digits_more : (n : Bool) → IfSome o (λ d. d < 16) → is_some o ≡ not n → n ≡ false → all_digits w ≡ all_digits (drop (i + 1) w)
  digits_more n l q p =
      let k : digit (get_or w i 0) < 16 = rw is at (value_below o l (rw p at q)) in
      let e : all_digits (drop i w) ≡ all_digits (drop (i + 1) w) = rw (add-one, drop-cons w i 0 h, lt-leb 16 (digit (get_or w i 0)) k) in
      so_far ∙ e

  pub digits_stop : (n : Bool) → is_some o ≡ not n → n ≡ true → false ≡ all_digits w
  digits_stop n q p =
      let k : 16 ≤ digit (get_or w i 0) = rw is at (no_value o (rw p at q)) in
      let e : all_digits (drop i w) ≡ false = rw (drop-cons w i 0 h, le-leb 16 (digit (get_or w i 0)) k) in
      sym (so_far ∙ e)

pub digits_end : (w : List ℕ) (i : ℕ) → all_digits w ≡ all_digits (drop i w) → length w ≤ i → true ≡ all_digits w
digits_end w i so_far h = sym (rw (drop_of_length-le w {i = i} h) at so_far)

-- a turn of the loop that stores the bytes of the pairs
pairs_turn : (m w : List ℕ) (n : ℕ) → n < length w / 2
    → sets (set m n (byte_of (get_or w (2 * n) 0) (get_or w (2 * n + 1) 0))) (n + 1) (bytes_of (drop (2 * (n + 1)) w)) ≡ sets m n (bytes_of (drop (2 * n) w))
pairs_turn m w n h =
    let h1 : 2 * n < length w = omega arith in
    let h2 : suc (2 * n) < length w = omega arith in
    let e : 2 * (n + 1) ≡ suc (suc (2 * n)) = omega arith in
    rw (e, add-one (2 * n), add-one n, drop-cons w (2 * n) 0 h1, drop-cons w (suc (2 * n)) 0 h2)

bytes_short : (s : List ℕ) → length s ≤ 1 → bytes_of s ≡ []
bytes_short [] h = refl
bytes_short (a ∷ []) h = refl
bytes_short (a ∷ b ∷ s) h = absurd (omega arith)

pub pairs_more : (m m' w all : List ℕ) (n b : ℕ) → n < length w / 2 → b ≡ byte_of (get_or w (2 * n) 0) (get_or w (2 * n + 1) 0)
    → m' ≡ store m n (b ∷ []) → sets m n (bytes_of (drop (2 * n) w)) ≡ all → sets m' (n + 1) (bytes_of (drop (2 * (n + 1)) w)) ≡ all
unfolding store
pairs_more m m' w all n b h e k so_far = rw (k, e) (pairs_turn m w n h ∙ so_far)

length_bytes : (w : List ℕ) → length w / 2 ≡ length (bytes_of w)
length_bytes [] = refl
length_bytes (a ∷ []) = refl
length_bytes (a ∷ b ∷ w) =
    let e : suc (suc (length w)) / 2 ≡ suc (length w / 2) = omega arith in
    e ∙ ap suc (length_bytes w)

pub pairs_end : (m w out : List ℕ) (n count : ℕ) → count ≡ length w / 2 → count ≤ n → sets m n (bytes_of (drop (2 * n) w)) ≡ sets out 0 (bytes_of w)
    → decoded count m ≡ decode w out
unfolding store decode
pairs_end m w out n count k h so_far =
    let e : bytes_of (drop (2 * n) w) ≡ [] = bytes_short (drop (2 * n) w) (omega (arith, length-drop (2 * n) w)) in
    let f : m ≡ sets out 0 (bytes_of w) = rw e at so_far in
    rw (k, length_bytes w, f)
