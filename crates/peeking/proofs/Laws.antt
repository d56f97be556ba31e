-- Laws of the firmware's reads, one for each way out. Assumes nothing.
use Prim.Native.Nat.{ℕ}
use mathlib.Core.Path.{◌≡◌}
use mathlib.Core.List.{List}
use lib.ListN.{take}
use Rattle.fcs.specs.CheckSequence.{check_number}
use Rattle.enet.specs.declared.Enet.{Enet}
use Rattle.words.specs.Words.{characters}
use Rattle.text.specs.Text.{Text, put}
use Rattle.replies.specs.Replies.{valued}
use Rattle.commands.specs.Commands.{check_says}

module _ (d : Enet) (t : List ℕ) (at : ℕ) (x : Text) where
  pub check_says_lem : (m w : List ℕ) (v : ℕ) → w ≡ take d.window m → v ≡ check_number w → x ≡ put t at (valued (characters "check") v)
      → x ≡ put t at (check_says d m)
  unfolding check_says
  check_says_lem m w v e f h = rw (← e, ← f) h
