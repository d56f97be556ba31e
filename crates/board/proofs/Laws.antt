-- The ways out of a line's answer. Assumes nothing.
use Prim.Native.Nat.{ℕ}
use mathlib.Core.Path.{◌≡◌}
use mathlib.Core.Bool.{Bool, true, false, not}
use mathlib.Core.List.{List}
use Rattle.rules.proofs.Choices.{said_no}
use Rattle.enet.specs.Access.{interrupt_line}
use Rattle.words.specs.Words.{characters, is, first}
use Rattle.script.specs.declared.Call.{Call}
use Rattle.script.specs.Calls.{call_of}
use Rattle.kinds.specs.Kinds.{renews}
use Rattle.commands.specs.declared.Console.{Console}
use Rattle.commands.specs.declared.Told.{Told}
use Rattle.commands.specs.Answers.{given as console_given, tells as console_tells}
use Rattle.commands.specs.Answering.{reset as reset_console, counted, answer as console_answer}
use Rattle.vic_script.specs.declared.VicCall.{VicCall}
use Rattle.std.specs.Prelude.{Option, Some, None}
use Rattle.vic_script.specs.VicCalls.{vic_call_of}
use Rattle.vic_commands.specs.declared.Controllers.{Controllers}
use Rattle.vic_commands.specs.declared.VicTold.{VicTold}
use Rattle.vic_commands.specs.VicCommands.{reset as reset_controllers, answer_to, given as vic_given, tells as vic_tells}
use Rattle.board.specs.declared.Board.{Board}
use Rattle.kinds.proofs.New.{not_by_name}
use Rattle.board.specs.Board.{reset, called, renewed, elsewhere, answer, Given, given, tells}

pub reset_both : (c : Console) (v : Controllers) → c ≡ reset_console → v ≡ reset_controllers → record { console = c; controllers = v } ≡ reset
unfolding reset
reset_both c v e f = λ j. record { console = e j; controllers = f j }

-- the controllers after a line, which the code does not read as a call where its first word is not `new`
pub not_new : (line w : List ℕ) (c : Controllers) (s : Bool) → w ≡ first line → s ≡ is w (characters "new") → not s ≡ true → c ≡ renewed line c
unfolding renewed
not_new line w c s cut e h =
    let n : is (first line) (characters "new") ≡ false = rw cut at (said_no (is w (characters "new")) s e h) in rw (not_by_name line n)

module _ (line : List ℕ) (c : Controllers) (k : Call) (ek : k ≡ call_of line) (b : Bool) (eb : b ≡ renews k.command) where
  pub is_new : (n : Controllers) → b ≡ true → n ≡ reset_controllers → n ≡ renewed line c
  unfolding renewed
  is_new n y en = rw (← ek, ← eb, y) en

  pub no_call : b ≡ false → c ≡ renewed line c
  unfolding renewed
  no_call n = rw (← ek, ← eb, n)

-- a line that calls the controllers, and any other
module _ (b : Board) (t t' : List ℕ) (at : ℕ) where
  pub called_is : (m : List ℕ) (k : VicCall) (l : Bool) (r : VicTold) (n : Console) → l ≡ interrupt_line b.console.device
      → vic_given r t' ≡ vic_tells (answer_to k.command b.controllers l k.vic k.a k.b) t at → n ≡ counted b.console
      → given (record { board = record { console = n; controllers = r.controllers }; end = r.end }) m t' ≡ tells (called b m k) t at
  unfolding called
  called_is m k l r n e h f =
      rw (← e)
      (λ j. record { board = record { console = f j; controllers = (h j).controllers }; memory = m; text = (h j).text })

  pub elsewhere_is : (m m' line : List ℕ) (r : Told) (v : Controllers)
      → console_given r m' t' ≡ console_tells (console_answer b.console m line) t at → v ≡ renewed line b.controllers
      → given (record { board = record { console = r.console; controllers = v }; end = r.end }) m' t' ≡ tells (elsewhere b m line) t at
  unfolding elsewhere
  elsewhere_is m m' line r v h e =
      λ j. record { board = record { console = (h j).console; controllers = e j }; memory = (h j).memory; text = (h j).text }

module _ (b : Board) (m line t : List ℕ) (at : ℕ) (k : Option VicCall) (e : k ≡ vic_call_of line) (x : Given) where
  pub answer_calls : (call : VicCall) → k ≡ Some call → x ≡ tells (called b m call) t at → x ≡ tells (answer b m line) t at
  unfolding answer
  answer_calls call f h = rw (← e, f) h

  pub answer_other : k ≡ None → x ≡ tells (elsewhere b m line) t at → x ≡ tells (answer b m line) t at
  unfolding answer
  answer_other f h = rw (← e, f) h
