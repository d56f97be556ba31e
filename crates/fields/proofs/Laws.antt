-- Laws of fields: the turns and the ways out of their functions. Assumes nothing.
use mathlib.Core.Path.{◌≡◌, refl, sym, ap, ◌∙◌}
use mathlib.Core.List.{List, [], ◌∷◌, ◌++◌}
use Prim.Native.Nat.{ℕ, zero, suc, ◌+◌, ◌-◌, ◌/◌, ◌%◌, ◌≤◌, ◌<◌}
use native.Mathlib.Numerals.{add-one}
use native.Mathlib.Omega.{arith}
use borrow.Author.Tests.{lt-ltb, le-ltb}
use lib.Dec.{eqb}
use mathlib.Core.Bool.{Bool, true, false}
use Rattle.std.specs.Int.{w32, to_be_bytes}
use lib.ListN.{length, get_or, drop, drop_of_length-le}
use lib.Seq.{drop-cons}
use Rattle.words.specs.Words.{characters}
use Rattle.text.specs.Text.{Text, written, put}
use Rattle.fields.specs.Fields.{each, digits, number, glyph, pair, pairs, bytes, value}
use Rattle.text.proofs.Laws.{put_more, put_then, put_nothing}

-- ---- the digits of a number

digits_small : (most n : ℕ) → (most ≡ 0 → ⊥) → n < 10 → digits most n ≡ (48 + n % 10) ∷ []
unfolding digits
digits_small zero n z l = absurd (z refl)
digits_small (suc most) n z l = rw (lt-ltb n 10 l)

digits_great : (most n : ℕ) → (most ≡ 0 → ⊥) → 10 ≤ n → digits most n ≡ digits (most - 1) (n / 10) ++ ((48 + n % 10) ∷ [])
unfolding digits
digits_great zero n z l = absurd (z refl)
digits_great (suc most) n z l =
    let e : suc most - 1 ≡ most = omega arith in
    rw (le-ltb n 10 l, e)

module _ (t : List ℕ) (at n most : ℕ) (x : Text) where
  pub digits_none : most ≡ 0 → x ≡ put t at [] → x ≡ put t at (digits most n)
  unfolding digits
  digits_none z e = rw z e

  pub digits_last : (most ≡ 0 → ⊥) → n < 10 → x ≡ put t at ((48 + n % 10) ∷ []) → x ≡ put t at (digits most n)
  digits_last z l e = rw (digits_small most n z l) e

  pub digits_more : (t' : List ℕ) (end : ℕ) → (most ≡ 0 → ⊥) → 10 ≤ n → written end t' ≡ put t at (digits (most - 1) (n / 10))
      → x ≡ put t' end ((48 + n % 10) ∷ []) → x ≡ put t at (digits most n)
  digits_more t' end z l e h = rw (digits_great most n z l) (put_then t t' at end _ _ x e h)

-- ---- a field for each of some numbers: the turns of a loop over them, and its end

module _ (field : ℕ → List ℕ) (s : List ℕ) where
  each_next : (i : ℕ) → i < length s → each field (drop i s) ≡ field (get_or s i 0) ++ each field (drop (i + 1) s)
  unfolding each
  each_next i h = rw (add-one, drop-cons s i 0 h)

  pub each_turn : (t t' : List ℕ) (end end' i : ℕ) (all : Text) → written end' t' ≡ put t end (field (get_or s i 0)) → i < length s
      → put t end (each field (drop i s)) ≡ all → put t' end' (each field (drop (i + 1) s)) ≡ all
  each_turn t t' end end' i all e h so_far =
      put_more t t' end end' (field (get_or s i 0)) (each field (drop (i + 1) s)) e ∙ ap (put t end) (sym (each_next i h)) ∙ so_far

  pub each_end : (t : List ℕ) (end i : ℕ) (all : Text) → put t end (each field (drop i s)) ≡ all → length s ≤ i → end ≤ length t → written end t ≡ all
  unfolding each
  each_end t end i all so_far l h = put_nothing t end end (omega arith) ∙ (rw (drop_of_length-le s {i = i} l) at so_far)

-- ---- bytes in pairs

-- the character of a digit below 10, and of one above
pub glyph_digit : (d : ℕ) → d < 10 → 48 + d ≡ glyph d
unfolding glyph
glyph_digit d h = rw (lt-ltb d 10 h)

pub glyph_letter : (d : ℕ) → 10 ≤ d → 87 + d ≡ glyph d
unfolding glyph
glyph_letter d h = rw (le-ltb d 10 h)

pub pair_is : (t : List ℕ) (at b high low : ℕ) (x : Text) → high ≡ glyph (b / 16) → low ≡ glyph (b % 16)
    → x ≡ put t at (high ∷ low ∷ []) → x ≡ put t at (pair b)
unfolding pair
pair_is t at b high low x h l e = rw (← h, ← l) e

-- ---- fields, each behind a space

module _ (t : List ℕ) (at : ℕ) (x : Text) where
  pub bytes_none : (s : List ℕ) (none : Bool) → none ≡ eqb (length s) 0 → none ≡ true → x ≡ put t at (characters " -") → x ≡ put t at (bytes s)
  unfolding bytes
  bytes_none s none l y e = rw (sym l ∙ y) e

  module _ (t' : List ℕ) (end : ℕ) (space : written end t' ≡ put t at (characters " ")) where
    pub bytes_some : (s : List ℕ) (none : Bool) → none ≡ eqb (length s) 0 → none ≡ false → x ≡ put t' end (pairs s) → x ≡ put t at (bytes s)
    unfolding bytes
    bytes_some s none l y e = rw (sym l ∙ y) (put_then t t' at end (characters " ") (pairs s) x space e)

    pub number_is : (n : ℕ) → x ≡ put t' end (digits 20 n) → x ≡ put t at (number n)
    unfolding number
    number_is n e = put_then t t' at end (characters " ") (digits 20 n) x space e

    pub value_is : (v : ℕ) (s : List ℕ) → s ≡ to_be_bytes w32 v → x ≡ put t' end (pairs s) → x ≡ put t at (value v)
    unfolding value
    value_is v s q e = put_then t t' at end (characters " ") _ x space (rw q at e)
