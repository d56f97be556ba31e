-- Only a line whose first word is `new` is the call `new`. Assumes nothing.
use Prim.Native.Nat.{ℕ}
use mathlib.Core.Path.{◌≡◌, refl}
use mathlib.Core.Bool.{Bool, true, false, not}
use mathlib.Core.List.{List}
use lib.Dec.{ltb}
use lib.ListN.{length}
use Rattle.std.specs.Prelude.{if◌then◌else◌}
use Rattle.std.specs.Prelude.{Option, Some, None}
use Rattle.forms.specs.Numbers.{hexadecimal, decimal}
use Rattle.forms.specs.Pairs.{byte_count}
use Rattle.pair_words.specs.PairWords.{pairs_behind}
use Rattle.words.specs.Words.{characters, is, spaced, first, rest}
use Rattle.script.specs.declared.Command.{Command}
use Rattle.script.specs.declared.Command.TheVariants.{Lend, Read, Write, Line, Grant, Frame, Burst, Send, Run, Tick, Show, Ring, Poke, Peek, Check, State, Counters}
use Rattle.script.specs.declared.Call.{Call}
use Rattle.script.specs.Calls.{no_call, given, none, any, alone, with_one, with_two, with_more, call_of}
use Rattle.kinds.specs.Kinds.{renews}

-- a call that is not `new`
abbrev Not : Call → Type 0
Not c = renews c.command ≡ false

-- another command with its numbers
not_given : (k : Command) (a b : Option ℕ) → renews k ≡ false → Not (given k a b)
unfolding given
not_given k None b e = refl
not_given k (Some x) None e = refl
not_given k (Some x) (Some y) e = e

-- by a name
either_name : (t : Bool) (x y : Call) → Not x → Not y → Not (if t then x else y)
either_name true x y f g = f
either_name false x y f g = g

not_alone : (w : List ℕ) → Not (alone w)
unfolding alone
not_alone w =
    either_name (is w (characters "line")) (given Line none none) _ (not_given Line none none refl)
    (either_name (is w (characters "tick")) (given Tick none none) _ (not_given Tick none none refl)
    (either_name (is w (characters "check")) (given Check none none) _ (not_given Check none none refl)
    (either_name (is w (characters "state")) (given State none none) _ (not_given State none none refl)
    (either_name (is w (characters "counters")) (given Counters none none) no_call (not_given Counters none none refl) refl))))

not_with_one : (w a : List ℕ) → Not (with_one w a)
unfolding with_one
not_with_one w a =
    either_name (is w (characters "lend")) _ _ (not_given Lend (decimal a 65_544) none refl)
    (either_name (is w (characters "read")) _ _ (not_given Read (hexadecimal a) none refl)
    (either_name (is w (characters "grant")) _ _ (not_given Grant (hexadecimal a) none refl)
    (either_name (is w (characters "frame")) _ _ (not_given Frame (byte_count a) none refl)
    (either_name (is w (characters "send")) _ _ (not_given Send (decimal a 65_536) none refl)
    (either_name (is w (characters "show")) _ no_call (not_given Show (hexadecimal a) none refl) refl)))))

not_with_two : (w a b : List ℕ) → is w (characters "new") ≡ false → Not (with_two w a b)
unfolding with_two
not_with_two w a b e =
    rw e
    (either_name (is w (characters "write")) _ _ (not_given Write (hexadecimal a) (hexadecimal b) refl)
    (either_name (is w (characters "run")) _ _ (not_given Run (decimal a any) (decimal b 65_536) refl)
    (either_name (is w (characters "ring")) _ _ (not_given Ring (decimal a any) (hexadecimal b) refl)
    (either_name (is w (characters "poke")) _ _ (not_given Poke (hexadecimal a) (byte_count b) refl)
    (either_name (is w (characters "peek")) _ no_call (not_given Peek (hexadecimal a) (decimal b 65_536) refl) refl)))))

not_with_more : (w a words : List ℕ) → is w (characters "new") ≡ false → Not (with_more w a words)
unfolding with_more
not_with_more w a words e =
    either_name (is w (characters "burst")) _ _ (not_given Burst (decimal a 66) (pairs_behind words) refl)
    (either_name (spaced words) no_call (with_two w a words) refl (not_with_two w a words e))

pub not_by_name : (line : List ℕ) → is (first line) (characters "new") ≡ false → renews (call_of line).command ≡ false
unfolding call_of
not_by_name line e =
    either_name (ltb 4096 (length line)) no_call _ refl
    (either_name (not (spaced line)) (alone line) _ (not_alone line)
    (either_name (not (spaced (rest line))) (with_one (first line) (rest line)) _ (not_with_one (first line) (rest line))
    (not_with_more (first line) (first (rest line)) (rest (rest line)) e)))
