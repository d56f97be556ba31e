-- Laws of words: where a line is cut, and words compared. Assumes nothing.
use mathlib.Core.Path.{◌≡◌, sym, ◌∙◌}
use mathlib.Core.Bool.{Bool, true, false}
use mathlib.Core.List.{List, []}
use Prim.Native.Nat.{ℕ, ◌+◌, ◌-◌, ◌<◌}
use native.Mathlib.Omega.{arith}
use borrow.Author.Tests.{lt-ltb, le-ltb}
use lib.ListN.{length, take, drop, drop_of_length-le, length-drop}
use lib.Dec.{ltb}
use lib.Seq.{take_all}
use Rattle.std.specs.Prelude.{Option, Some, None, is_some, unwrap_or, IfSome}
use Rattle.scanning.specs.Scanning.{index_of}
use Rattle.std.specs.Prelude.{if◌then◌else◌}
use Rattle.words.specs.Words.{spaced, first, rest}

a_place : (o : Option ℕ) (n : ℕ) → IfSome o (λ i. i < n) → is_some o ≡ ltb (unwrap_or o n) n
a_place None n f = sym (le-ltb n n (omega arith))
a_place (Some i) n f = sym (lt-ltb i n f)

-- the place of the first space, if there is one
module _ (s : List ℕ) (o : Option ℕ) (e : unwrap_or o (length s) ≡ index_of 32 s) where
  pub spaced_is : (r : Bool) → IfSome o (λ i. i < length s) → r ≡ is_some o → r ≡ spaced s
  unfolding spaced
  spaced_is r f h = rw (← e) (h ∙ a_place o (length s) f)

  pub first_is : (n : ℕ) → o ≡ Some n → take n s ≡ first s
  unfolding first
  first_is n p = rw (← e, p)

  pub first_all : o ≡ None → s ≡ first s
  unfolding first
  first_all p = rw (← e, p) (sym (take_all (length s) s (omega arith)))

  pub rest_is : (n : ℕ) → o ≡ Some n → take (length s - (n + 1)) (drop (n + 1) s) ≡ rest s
  unfolding rest
  rest_is n p = rw (← e, p) (take_all (length s - (n + 1)) (drop (n + 1) s) (omega (arith, length-drop (n + 1) s)))

  pub rest_none : o ≡ None → [] ≡ rest s
  unfolding rest
  rest_none p = rw (← e, p) (sym (drop_of_length-le s {i = length s + 1} (omega arith)))

-- ---- a name that was tested by a call, and is the one asked for or not

module _ {A : Type 0} (s r : Bool) (x a b : A) (is : r ≡ s) where
  pub named : r ≡ true → x ≡ a → x ≡ (if s then a else b)
  named t e = rw (← is, t) e

  pub not_named : r ≡ false → x ≡ b → x ≡ (if s then a else b)
  not_named t e = rw (← is, t) e
