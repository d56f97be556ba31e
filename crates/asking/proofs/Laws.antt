-- Laws of the calls that change nothing, one for each. Assumes nothing.
use Prim.Native.Nat.{ℕ}
use mathlib.Core.Path.{◌≡◌}
use mathlib.Core.List.{List}
use lib.ListN.{take}
use Rattle.words.specs.Words.{characters}
use Rattle.text.specs.Text.{Text, written, put}
use Rattle.replies.specs.Replies.{numbered}
use Rattle.commands.specs.declared.Console.{Console}
use Rattle.commands.specs.Answers.{answers, given, tells}
use Rattle.commands.specs.Commands.{read_says, line_says, show_says, ring_says, peek_says, check_says, state_says, counters_say, error_says}
use Rattle.kinds.specs.declared.Query.{Query}
use Rattle.kinds.specs.declared.Query.TheVariants.{Read, Line, Show, Ring, Peek, Check, State, Counters, Error}
use Rattle.asking.specs.Says.{says}

module _ (c : Console) (m t : List ℕ) (a b at : ℕ) (k : Query) (x : Text) where
  pub read_said : k ≡ Read → x ≡ put t at (read_says c.device a) → x ≡ put t at (says k c m a b)
  read_said e h = rw e h

  pub line_said : k ≡ Line → x ≡ put t at (line_says c.device) → x ≡ put t at (says k c m a b)
  line_said e h = rw e h

  pub show_said : (l : List ℕ) → k ≡ Show → l ≡ take c.lent m → x ≡ put t at (show_says c.device l a) → x ≡ put t at (says k c m a b)
  show_said l e q h = rw (e, ← q) h

  pub ring_said : (l : List ℕ) → k ≡ Ring → l ≡ take c.lent m → x ≡ put t at (ring_says c.device l a b) → x ≡ put t at (says k c m a b)
  ring_said l e q h = rw (e, ← q) h

  pub peek_said : k ≡ Peek → x ≡ put t at (peek_says c.device m a b) → x ≡ put t at (says k c m a b)
  peek_said e h = rw e h

  pub check_said : k ≡ Check → x ≡ put t at (check_says c.device m) → x ≡ put t at (says k c m a b)
  check_said e h = rw e h

  pub state_said : k ≡ State → x ≡ put t at (state_says c.device) → x ≡ put t at (says k c m a b)
  state_said e h = rw e h

  pub counters_said : k ≡ Counters → x ≡ put t at (counters_say c.device) → x ≡ put t at (says k c m a b)
  counters_said e h = rw e h

  pub error_said : k ≡ Error → x ≡ put t at (numbered (characters "error") c.lines) → x ≡ put t at (says k c m a b)
  unfolding error_says
  error_said e h = rw e h

pub told_is : (c : Console) (m t t' s : List ℕ) (at end : ℕ) → written end t' ≡ put t at s
    → given (record { console = c; end = end }) m t' ≡ tells (answers c m s) t at
told_is c m t t' s at end h = λ j. record { console = c; memory = m; text = h j }
