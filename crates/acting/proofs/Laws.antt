-- Laws of the calls that act, one for each, and of a new bench. Assumes nothing.
use Prim.Native.Nat.{ℕ}
use mathlib.Core.Path.{◌≡◌}
use mathlib.Core.List.{List}
use lib.ListN.{length}
use Rattle.enet.specs.declared.Answered.{Answered}
use Rattle.enet.specs.Device.{new as new_bench}
use Rattle.enet.specs.Access.{write as write_register}
use Rattle.words.specs.Words.{characters, first, rest}
use Rattle.forms.specs.Pairs.{named}
use Rattle.text.specs.Text.{written, put}
use Rattle.commands.specs.declared.Console.{Console}
use Rattle.commands.specs.declared.Told.{Told}
use Rattle.commands.specs.Answers.{Given, with_device, with_bench, given, tells}
use Rattle.replies.specs.Replies.{said, numbered}
use Rattle.commands.specs.Commands.{zeros, output, answer_list, starts, lengths, new, lend, write, grant, frame, burst, send, run, tick, poke}
use Rattle.kinds.specs.declared.Act.{Act}
use Rattle.kinds.specs.declared.Act.TheVariants.{New, Lend, Write, Grant, Frame, Burst, Send, Run, Tick, Poke}
use Rattle.acting.specs.Acts.{acts}

module _ (c : Console) (m line t : List ℕ) (a b at : ℕ) (k : Act) where
  -- the calls that a function of their own makes whole
  module _ (x : Given) where
    pub grant_called : k ≡ Grant → x ≡ tells (grant c m a) t at → x ≡ tells (acts k c m a b line) t at
    grant_called e h = rw e h

    pub frame_called : (w : List ℕ) → k ≡ Frame → w ≡ rest line → x ≡ tells (frame c m (named w)) t at → x ≡ tells (acts k c m a b line) t at
    frame_called w e r h = rw (e, ← r) h

    pub burst_called : k ≡ Burst → x ≡ tells (burst c m (named (first (rest (rest line)))) (starts b line) (lengths b line) (answer_list a)) t at
        → x ≡ tells (acts k c m a b line) t at
    burst_called e h = rw e h

    pub send_called : k ≡ Send → x ≡ tells (send c m (output a)) t at → x ≡ tells (acts k c m a b line) t at
    send_called e h = rw e h

    pub run_called : k ≡ Run → x ≡ tells (run c m a (output b)) t at → x ≡ tells (acts k c m a b line) t at
    run_called e h = rw e h

    pub tick_called : k ≡ Tick → x ≡ tells (tick c m) t at → x ≡ tells (acts k c m a b line) t at
    tick_called e h = rw e h

    pub poke_called : (v w : List ℕ) → k ≡ Poke → v ≡ rest line → w ≡ rest v → x ≡ tells (poke c m a (named w)) t at
        → x ≡ tells (acts k c m a b line) t at
    poke_called v w e q r h = rw (e, ← q, ← r) h

  pub write_called : (t' : List ℕ) (r : Told) (w : Answered) → k ≡ Write → w ≡ write_register c.device a b → r.console ≡ with_device c w.device
      → written r.end t' ≡ put t at (numbered (characters "write") w.number) → given r m t' ≡ tells (acts k c m a b line) t at
  unfolding write
  write_called t' r w e f p h = rw (e, ← f) (λ j. record { console = p j; memory = m; text = h j })

  pub lend_called : (t' : List ℕ) (r : Told) → k ≡ Lend → r.console ≡ record { device = c.device; lent = a; lines = c.lines }
      → written r.end t' ≡ put t at (said (characters "lend")) → given r m t' ≡ tells (acts k c m a b line) t at
  unfolding lend
  lend_called t' r e p h = rw e (λ j. record { console = p j; memory = m; text = h j })

  pub new_called : (m' t' : List ℕ) (r : Told) → k ≡ New → m' ≡ zeros (length m) → r.console ≡ with_bench c (new_bench a b)
      → written r.end t' ≡ put t at (numbered (characters "new") (new_bench a b).number) → given r m' t' ≡ tells (acts k c m a b line) t at
  unfolding new
  new_called m' t' r e z p h = rw e (λ j. record { console = p j; memory = z j; text = h j })

-- ---- a new bench

pub new_made : (c : Console) (t t' : List ℕ) (at base window : ℕ) (r : Told) (a : Answered) → a ≡ new_bench base window → r.console ≡ with_bench c a
    → written r.end t' ≡ put t at (numbered (characters "new") a.number)
    → (r.console ≡ with_bench c (new_bench base window)) × (written r.end t' ≡ put t at (numbered (characters "new") (new_bench base window).number))
new_made c t t' at base window r a f p h = rw (← f) (p, h)
