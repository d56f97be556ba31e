-- Laws of calls of the interrupt controllers: a command with its numbers, and the ways out of a line's reading. Assumes nothing.
use Prim.Native.Nat.{ℕ}
use mathlib.Core.Path.{◌≡◌}
use mathlib.Core.Bool.{Bool, true, false, not}
use mathlib.Core.List.{List}
use Rattle.rules.proofs.Choices.{said_not}
use Rattle.std.specs.Prelude.{Option, Some, None}
use Rattle.forms.specs.Numbers.{hexadecimal}
use Rattle.words.specs.Words.{spaced, first, rest}
use Rattle.vic_script.specs.declared.VicCall.{VicCall}
use Rattle.vic_script.specs.declared.VicCommand.{VicCommand}
use Rattle.vic_script.specs.declared.VicCommand.TheVariants.{Write}
use Rattle.vic_script.specs.VicCalls.{given, vic_of, write_of, alone, with_words, vic_call_of}

-- ---- a command with its numbers

module _ (command : VicCommand) where
  pub given_first : (v a b : Option ℕ) (r : Option VicCall) → v ≡ None → r ≡ None → r ≡ given command v a b
  unfolding given
  given_first v a b r e h = rw e h

  pub given_second : (v a b : Option ℕ) (w : ℕ) (r : Option VicCall) → v ≡ Some w → a ≡ None → r ≡ None → r ≡ given command v a b
  unfolding given
  given_second v a b w r e f h = rw (e, f) h

  pub given_third : (v a b : Option ℕ) (w x : ℕ) (r : Option VicCall) → v ≡ Some w → a ≡ Some x → b ≡ None → r ≡ None → r ≡ given command v a b
  unfolding given
  given_third v a b w x r e f g h = rw (e, f, g) h

  pub given_all : (v a b : Option ℕ) (w x y : ℕ) → v ≡ Some w → a ≡ Some x → b ≡ Some y
      → Some (record { command = command; vic = w; a = x; b = y }) ≡ given command v a b
  unfolding given
  given_all v a b w x y e f g = rw (e, f, g)

  -- the numbers that calls answered
  pub given_one : (v v' a a' b : Option ℕ) (r : Option VicCall) → r ≡ given command v a b → v ≡ v' → a ≡ a' → r ≡ given command v' a' b
  given_one v v' a a' b r h e f = rw (e, f) at h

pub write_of_is : (vic words f g : List ℕ) (v a b : Option ℕ) (r : Option VicCall) → f ≡ first words → a ≡ hexadecimal f → g ≡ rest words → b ≡ hexadecimal g
    → v ≡ vic_of vic → r ≡ given Write v a b → r ≡ write_of vic words
unfolding write_of
write_of_is vic words f g v a b r e h k j m n = rw (← e, ← h, ← k, ← j, ← m) n

-- ---- a line

module _ (line : List ℕ) (s : Bool) (is : s ≡ spaced line) where
  pub line_alone : (r : Option VicCall) → not s ≡ true → r ≡ alone line → r ≡ vic_call_of line
  unfolding vic_call_of
  line_alone r t h = rw (said_not (spaced line) s true is t) h

  module _ (behind : List ℕ) (t : not s ≡ false) (cut : behind ≡ rest line) (s₂ : Bool) (is₂ : s₂ ≡ spaced behind) where
    pub line_of_two : not s₂ ≡ true → None ≡ vic_call_of line
    unfolding vic_call_of
    line_of_two t₂ = rw (said_not (spaced line) s false is t, ← cut, said_not (spaced behind) s₂ true is₂ t₂)

    pub line_of_more : (name vic words : List ℕ) (r : Option VicCall) → not s₂ ≡ false → name ≡ first line → vic ≡ first behind → words ≡ rest behind
        → r ≡ with_words name vic words → r ≡ vic_call_of line
    unfolding vic_call_of
    line_of_more name vic words r t₂ e f g h =
        rw (said_not (spaced line) s false is t, ← cut, said_not (spaced behind) s₂ false is₂ t₂, ← e, ← f, ← g) h
