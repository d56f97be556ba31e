-- A command by its kind, and a line's answer. Assumes nothing.
use Rattle.std.proofs.Common.{◌≡◌, ℕ, ◌+◌, ◌%◌, ◌^◌, min, Bool, true, false, List, length, refl}
use Rattle.enet.specs.declared.Enet.{Enet}
use Rattle.enet.specs.Device.{reset as reset_bench}
use Rattle.script.specs.declared.Call.{Call}
use Rattle.script.specs.declared.Command.{Command}
use Rattle.script.specs.declared.Command.TheVariants.{New, Lend, Read, Write, Line, Grant, Frame, Burst, Send, Run, Tick, Show, Ring, Poke, Peek, Check, State, Counters, Error}
use Rattle.script.specs.Calls.{call_of}
use Rattle.script.specs.Silent.{silent}
use Rattle.text.proofs.Laws.{put_nothing}
use Rattle.commands.specs.declared.Console.{Console}
use Rattle.commands.specs.Answers.{Answer, Given, answers, given, tells}
use Rattle.commands.specs.Answering.{reset, answer_to, counted, answer}
use Rattle.kinds.specs.declared.Kind.{Kind}
use Rattle.kinds.specs.declared.Kind.TheVariants.{Asks, Acts}
use Rattle.kinds.specs.declared.Query.{Query}
use Rattle.kinds.specs.declared.Act.{Act}
use Rattle.kinds.specs.Kinds.{kind_of}
use Rattle.asking.specs.Says.{says}
use Rattle.acting.specs.Acts.{acts}

-- ---- a command by its kind

by_kind : Kind → Console → List ℕ → ℕ → ℕ → List ℕ → Answer
by_kind (Asks q) c m a b line = answers c m (says q c m a b)
by_kind (Acts x) c m a b line = acts x c m a b line

module _ (c : Console) (m line : List ℕ) (a b : ℕ) where
  by_kind_lem : (k : Command) → by_kind (kind_of k) c m a b line ≡ answer_to k c m a b line
  unfolding by_kind
  by_kind_lem New = refl
  by_kind_lem Lend = refl
  by_kind_lem Read = refl
  by_kind_lem Write = refl
  by_kind_lem Line = refl
  by_kind_lem Grant = refl
  by_kind_lem Frame = refl
  by_kind_lem Burst = refl
  by_kind_lem Send = refl
  by_kind_lem Run = refl
  by_kind_lem Tick = refl
  by_kind_lem Show = refl
  by_kind_lem Ring = refl
  by_kind_lem Poke = refl
  by_kind_lem Peek = refl
  by_kind_lem Check = refl
  by_kind_lem State = refl
  by_kind_lem Counters = refl
  by_kind_lem Error = refl

  module _ (t : List ℕ) (at : ℕ) (k : Command) (kind : Kind) (e : kind ≡ kind_of k) (x : Given) where
    pub asks_called : (q : Query) → kind ≡ Asks q → x ≡ tells (answers c m (says q c m a b)) t at → x ≡ tells (answer_to k c m a b line) t at
    unfolding by_kind
    asks_called q p h = rw (← by_kind_lem k, ← e, p) h

    pub acts_called : (act : Act) → kind ≡ Acts act → x ≡ tells (acts act c m a b line) t at → x ≡ tells (answer_to k c m a b line) t at
    unfolding by_kind
    acts_called act p h = rw (← by_kind_lem k, ← e, p) h

-- ---- a line

pub reset_is : (d : Enet) → d ≡ reset_bench → record { device = d; lent = 0; lines = 0 } ≡ reset
unfolding reset
reset_is d e = λ j. record { device = e j; lent = 0; lines = 0 }

pub counted_is : (c : Console) (n : ℕ) → n ≡ (c.lines + 1) % 2 ^ 64 → record { device = c.device; lent = c.lent; lines = n } ≡ counted c
counted_is c n e = λ j. record { device = c.device; lent = c.lent; lines = e j }

module _ (c n : Console) (m line t : List ℕ) (at : ℕ) (quiet : Bool) (e : n ≡ counted c) (s : quiet ≡ silent line) where
  pub answer_silent : (end : ℕ) → quiet ≡ true → end ≡ min at (length t) → given (record { console = n; end = end }) m t ≡ tells (answer c m line) t at
  unfolding answer
  answer_silent end q h = rw (← s, q) (λ j. record { console = e j; memory = m; text = put_nothing t at end h j })

  pub answer_called : (call : Call) (x : Given) → quiet ≡ false → call ≡ call_of line
      → x ≡ tells (answer_to call.command n m call.a call.b line) t at → x ≡ tells (answer c m line) t at
  unfolding answer
  answer_called call x q f h = rw (← s, q, ← f, ← e) h
