-- Laws of calls: a command with its numbers, and the ways out of a line's reading. Assumes nothing.
use mathlib.Core.Path.{◌≡◌}
use mathlib.Core.Bool.{Bool, true, false, not}
use mathlib.Core.List.{List}
use Prim.Native.Nat.{ℕ, ◌≤◌, ◌<◌}
use borrow.Author.Tests.{lt-ltb, le-ltb}
use lib.ListN.{length}
use Rattle.rules.proofs.Choices.{said_not}
use Rattle.std.specs.Prelude.{Option, Some, None}
use Rattle.script.specs.declared.Command.{Command}
use Rattle.script.specs.declared.Command.TheVariants.{Burst}
use Rattle.script.specs.declared.Call.{Call}
use Rattle.script.specs.Calls.{no_call, given, alone, with_one, with_two, with_more, call_of}
use Rattle.forms.specs.Numbers.{decimal}
use Rattle.pair_words.specs.PairWords.{pairs_behind}
use Rattle.words.specs.Words.{characters, is, spaced, first, rest}

-- ---- a command with its numbers

module _ (command : Command) where
  pub given_first : (a b : Option ℕ) (r : Call) → a ≡ None → r ≡ no_call → r ≡ given command a b
  unfolding given
  given_first a b r e h = rw e h

  pub given_second : (a b : Option ℕ) (x : ℕ) (r : Call) → a ≡ Some x → b ≡ None → r ≡ no_call → r ≡ given command a b
  unfolding given
  given_second a b x r e k h = rw (e, k) h

  pub given_both : (a b : Option ℕ) (x y : ℕ) → a ≡ Some x → b ≡ Some y → record { command = command; a = x; b = y } ≡ given command a b
  unfolding given
  given_both a b x y e k = rw (e, k)

  -- the numbers that calls answered
  pub given_one : (a a' b : Option ℕ) (r : Call) → r ≡ given command a b → a ≡ a' → r ≡ given command a' b
  given_one a a' b r h e = rw e at h

  pub given_two : (a a' b b' : Option ℕ) (r : Call) → r ≡ given command a b → a ≡ a' → b ≡ b' → r ≡ given command a' b'
  given_two a a' b b' r h e k = rw (e, k) at h

-- ---- a line of three words or more

module _ (name a words : List ℕ) (r : Call) (b : Bool) (is-it : b ≡ is name (characters "burst")) where
  pub more_burst : (x y : Option ℕ) → b ≡ true → x ≡ decimal a 66 → y ≡ pairs_behind words → r ≡ given Burst x y → r ≡ with_more name a words
  unfolding with_more
  more_burst x y t e k h = rw (← is-it, t, ← e, ← k) h

  module _ (t : b ≡ false) (s : Bool) (e : s ≡ spaced words) where
    pub more_none : s ≡ true → r ≡ no_call → r ≡ with_more name a words
    unfolding with_more
    more_none t₂ h = rw (← is-it, t, ← e, t₂) h

    pub more_two : s ≡ false → r ≡ with_two name a words → r ≡ with_more name a words
    unfolding with_more
    more_two t₂ h = rw (← is-it, t, ← e, t₂) h

-- ---- a line

pub line_long : (line : List ℕ) (r : Call) → 4096 < length line → r ≡ no_call → r ≡ call_of line
unfolding call_of
line_long line r l h = rw (lt-ltb 4096 (length line) l) h

module _ (line : List ℕ) (r : Call) (s : Bool) (l : length line ≤ 4096) (is : s ≡ spaced line) where
  pub line_alone : not s ≡ true → r ≡ alone line → r ≡ call_of line
  unfolding call_of
  line_alone t h = rw (le-ltb 4096 (length line) l, said_not (spaced line) s true is t) h

  module _ (behind : List ℕ) (t : not s ≡ false) (cut : behind ≡ rest line) (s₂ : Bool) (is₂ : s₂ ≡ spaced behind) where
    pub line_one : (name : List ℕ) → not s₂ ≡ true → name ≡ first line → r ≡ with_one name behind → r ≡ call_of line
    unfolding call_of
    line_one name t₂ n h =
        rw (le-ltb 4096 (length line) l, said_not (spaced line) s false is t, ← cut, said_not (spaced behind) s₂ true is₂ t₂, ← n) h

    pub line_more : (name word words : List ℕ) → not s₂ ≡ false → name ≡ first line → word ≡ first behind → words ≡ rest behind → r ≡ with_more name word words
        → r ≡ call_of line
    unfolding call_of
    line_more name word words t₂ n w cut₂ h =
        rw (
          le-ltb 4096 (length line) l,
          said_not (spaced line) s false is t,
          ← cut,
          said_not (spaced behind) s₂ false is₂ t₂,
          ← n,
          ← w,
          ← cut₂,
        )
        h
