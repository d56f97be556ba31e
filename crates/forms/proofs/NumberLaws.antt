-- Laws of numbers in words: the turns of the loop over the digits, and that 8 digits fit 32 bits. Assumes nothing.
use mathlib.Core.Path.{◌≡◌, sym, ◌∙◌}
use mathlib.Core.List.{List}
use Prim.Native.Nat.{ℕ, ◌+◌, ◌*◌, ◌^◌, ◌≤◌, ◌<◌}
use native.Mathlib.Nat.{pow-suc, pow-le-pow_right, mul-le-mul_left}
use native.Mathlib.Numerals.{add-one}
use native.Mathlib.Omega.{arith}
use borrow.Author.Tests.{lt-ltb, le-ltb, le-leb, lt-leb}
use lib.ListN.{length, get_or, drop, drop_of_length-le}
use lib.Seq.{drop-cons}
use Rattle.std.specs.Prelude.{Option, Some, None, unwrap_or}
use Rattle.std.specs.Option.{SomeIff}
use Rattle.std.specs.Char.{digit_value}
use Rattle.forms.specs.Numbers.{digit, number_from, number_of, decimal}

-- ---- a digit, as std has it

digit_is : (c : ℕ) → digit_value c < 16 → digit_value c ≡ digit c
unfolding digit
digit_is c h = grind arith

no_digit : (c : ℕ) → 16 ≤ digit_value c → 16 ≡ digit c
unfolding digit
no_digit c h = grind arith

digit_of : (c : ℕ) (r : Option ℕ) → SomeIff r (digit_value c < 16) (digit_value c) → unwrap_or r 16 ≡ digit c
digit_of c None h = no_digit c (omega (arith, h))
digit_of c (Some d) h = h.1 ∙ digit_is c h.0

pub digit_told : (c k : ℕ) (r : Option ℕ) → k ≡ c → SomeIff r (digit_value k < 16) (digit_value k) → unwrap_or r 16 ≡ digit c
digit_told c k r e h = rw e at (digit_of k r h)

-- ---- the loop

-- what a character of the word adds, with the number so far and the character's digit in hand
module _ (base n : ℕ) (w : List ℕ) (i : ℕ) (so_far : number_of base w ≡ number_from base n (drop i w)) (h : i < length w) (o : Option ℕ) (is : unwrap_or o 16 ≡ digit (get_or w i 0)) where
  pub number_more : (d : ℕ) → o ≡ Some d → d < base → number_of base w ≡ number_from base (n * base + d) (drop (i + 1) w)
  number_more d p l =
      let k : d ≡ digit (get_or w i 0) = rw p at is in
      let e : number_from base n (drop i w) ≡ number_from base (n * base + d) (drop (i + 1) w) = rw (add-one, drop-cons w i 0 h, ← k, lt-leb base d l) in
      so_far ∙ e

  pub number_stop : (d : ℕ) → o ≡ Some d → base ≤ d → None ≡ number_of base w
  number_stop d p l =
      let k : d ≡ digit (get_or w i 0) = rw p at is in
      let e : number_from base n (drop i w) ≡ None = rw (drop-cons w i 0 h, ← k, le-leb base d l) in
      sym (so_far ∙ e)

  pub number_no_digit : (r : Option ℕ) → o ≡ None → base ≤ 16 → r ≡ None → r ≡ number_of base w
  number_no_digit r p l q =
      let k : 16 ≡ digit (get_or w i 0) = rw p at is in
      let e : number_from base n (drop i w) ≡ None = rw (drop-cons w i 0 h, ← k, le-leb base 16 l) in
      q ∙ sym (so_far ∙ e)

pub number_end : (base n : ℕ) (w : List ℕ) (i : ℕ) → number_of base w ≡ number_from base n (drop i w) → length w ≤ i → Some n ≡ number_of base w
number_end base n w i so_far h = sym (rw (drop_of_length-le w {i = i} h) at so_far)

-- one digit more, and that the eighth still fits
pub digit_more : (base n d i : ℕ) → base ≤ 16 → d < base → n < 16 ^ i → n * base + d < 16 ^ (i + 1)
digit_more base n d i b h k =
    let m : n * base ≤ n * 16 = mul-le-mul_left n b in
    rw (add-one, pow-suc) (omega arith)

pub digit_fits : (base n d i k : ℕ) → base ≤ 16 → d < base → n < 16 ^ i → i < k → k ≤ 8 → n * base + d < 2 ^ 32
digit_fits base n d i k b h l m e =
    let p : 16 ^ (i + 1) ≤ 16 ^ 8 = pow-le-pow_right {n = 16} (omega arith) {i = i + 1} {j = 8} (omega arith) in
    omega (arith, digit_more base n d i b h l)

pub product_fits : (base n d i k : ℕ) → base ≤ 16 → d < base → n < 16 ^ i → i < k → k ≤ 8 → n * base < 2 ^ 32
product_fits base n d i k b h l m e = omega (arith, digit_fits base n d i k b h l m e)

-- ---- a limit

module _ (word : List ℕ) (most : ℕ) (r : Option ℕ) (is : r ≡ number_of 10 word) where
  pub decimal_wrong : (x : Option ℕ) → r ≡ None → x ≡ None → x ≡ decimal word most
  unfolding decimal
  decimal_wrong x e h = rw (← is, e) h

  pub decimal_over : (n : ℕ) → r ≡ Some n → most < n → None ≡ decimal word most
  unfolding decimal
  decimal_over n e h = rw (← is, e, lt-ltb most n h)

  pub decimal_is : (n : ℕ) → r ≡ Some n → n ≤ most → Some n ≡ decimal word most
  unfolding decimal
  decimal_is n e h = rw (← is, e, le-ltb most n h)
