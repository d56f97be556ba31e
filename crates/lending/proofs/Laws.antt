-- Laws of the calls over lent memory. Assumes nothing.
use Prim.Native.Nat.{ℕ}
use mathlib.Core.Path.{◌≡◌, refl, ap, ◌∙◌}
use mathlib.Core.List.{List, ◌++◌}
use lib.ListN.{length, take, drop}
use Rattle.enet.specs.declared.Answered.{Answered}
use Rattle.enet.specs.Device.{Outcome, outcome}
use Rattle.enet.specs.Frames.{grant as grant_at, receive}
use Rattle.enet.specs.Tick.{tick as tick_of}
use Rattle.words.specs.Words.{characters}
use Rattle.forms.specs.Pairs.{named, decoded, decode}
use Rattle.forms.proofs.NamedLaws.{named_is}
use Rattle.text.specs.Text.{written, put}
use Rattle.commands.specs.declared.Console.{Console}
use Rattle.commands.specs.declared.Told.{Told}
use Rattle.commands.specs.Answers.{answers, with_device, given, tells}
use Rattle.replies.specs.Replies.{numbered}
use Rattle.commands.specs.Commands.{behind_lent, grant, frame, tick}

-- ---- a call that answers a number

module _ (c : Console) (m t t' : List ℕ) (at : ℕ) (r : Told) where
  -- over all of the memory, or none of it
  whole : (name m' : List ℕ) (a : Answered) → r.console ≡ with_device c a.device → written r.end t' ≡ put t at (numbered name a.number)
      → given r m' t' ≡ tells (answers (with_device c a.device) m' (numbered name a.number)) t at
  whole name m' a e h = λ j. record { console = e j; memory = m'; text = h j }

  pub tick_made : (l : List ℕ) (a : Answered) → l ≡ take c.lent m → a ≡ tick_of c.device l → r.console ≡ with_device c a.device
      → written r.end t' ≡ put t at (numbered (characters "tick") a.number) → given r m t' ≡ tells (tick c m) t at
  unfolding tick
  tick_made l a q p e h =
      whole (characters "tick") m a e h
      ∙ ap (λ (a : Answered). tells (answers (with_device c a.device) m (numbered (characters "tick") a.number)) t at) (p ∙ ap (tick_of c.device) q)

  module _ (n : ℕ) (seen : take n m ≡ take c.lent m) (kept : drop n m ≡ drop c.lent m) where
    part : (name l' : List ℕ) (a : Answered) (o : Outcome) → outcome a l' ≡ o → r.console ≡ with_device c a.device
        → written r.end t' ≡ put t at (numbered name a.number)
        → given r (l' ++ drop n m) t' ≡ tells (answers (with_device c o.device) (behind_lent c m o.memory) (numbered name o.number)) t at
    part name l' a o p e h =
        whole name (l' ++ drop n m) a e h
        ∙ ap (λ (k : List ℕ). tells (answers (with_device c a.device) (l' ++ k) (numbered name a.number)) t at) kept
        ∙ ap (λ (o : Outcome). tells (answers (with_device c o.device) (behind_lent c m o.memory) (numbered name o.number)) t at) p

    pub grant_made : (address : ℕ) (a : Answered) (l' : List ℕ) → outcome a l' ≡ grant_at c.device (take n m) address
        → r.console ≡ with_device c a.device → written r.end t' ≡ put t at (numbered (characters "grant") a.number)
        → given r (l' ++ drop n m) t' ≡ tells (grant c m address) t at
    unfolding grant
    grant_made address a l' p e h = part (characters "grant") l' a _ (rw seen at p) e h

    -- of a frame that a word names
    pub frame_made : (word out out' s : List ℕ) (k : ℕ) (a : Answered) (l' : List ℕ) → 2048 ≡ length out → decoded k out' ≡ decode word out
        → s ≡ take k out' → outcome a l' ≡ receive c.device (take n m) s → r.console ≡ with_device c a.device
        → written r.end t' ≡ put t at (numbered (characters "frame") a.number)
        → given r (l' ++ drop n m) t' ≡ tells (frame c m (named word)) t at
    unfolding frame
    frame_made word out out' s k a l' l d q p e h =
        let w : s ≡ named word = q ∙ named_is word out out' k l d in part (characters "frame") l' a _ (rw (seen, w) at p) e h

-- ---- the line of a call that answers a number alone

pub answered_is : (c : Console) (a : Answered) (t t' name : List ℕ) (at end : ℕ) (r : Told) → r ≡ record { console = with_device c a.device; end = end }
    → written end t' ≡ put t at (numbered name a.number)
    → (r.console ≡ with_device c a.device) × (written r.end t' ≡ put t at (numbered name a.number))
answered_is c a t t' name at end r e h = rw e (refl, h)
