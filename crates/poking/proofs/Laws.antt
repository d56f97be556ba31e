-- Laws of the firmware's write: where the bytes are stored, and what is said. Assumes nothing.
use Prim.Native.Nat.{ℕ}
use mathlib.Core.Path.{◌≡◌, ap, ◌∙◌}
use mathlib.Core.Bool.{Bool, true, false}
use mathlib.Core.List.{List}
use lib.ListN.{length, take}
use Rattle.std.specs.Prelude.{if◌then◌else◌}
use Rattle.memory.specs.Memory.{store}
use Rattle.window.specs.Window.{in_window, offset}
use Rattle.words.specs.Words.{characters}
use Rattle.forms.specs.Pairs.{named, decoded, decode}
use Rattle.forms.proofs.NamedLaws.{named_is}
use Rattle.text.specs.Text.{written, put}
use Rattle.replies.specs.Replies.{either}
use Rattle.commands.specs.declared.Console.{Console}
use Rattle.commands.specs.Answers.{given, tells}
use Rattle.commands.specs.Commands.{poke}

-- what is stored and said
module _ (c : Console) (m m' t t' : List ℕ) (at end address : ℕ) where
  poke_said : (s : List ℕ) (inside : Bool) → inside ≡ in_window c.device.base c.device.window address (length s)
      → m' ≡ (if inside then store m (offset c.device.base address) s else m)
      → written end t' ≡ put t at (either inside (characters "poke ok") (characters "poke outside"))
      → given (record { console = c; end = end }) m' t' ≡ tells (poke c m address s) t at
  unfolding poke
  poke_said s true e k h = rw (← e) (λ j. record { console = c; memory = k j; text = h j })
  poke_said s false e k h = rw (← e) (λ j. record { console = c; memory = k j; text = h j })

  pub poke_is : (word out out' s : List ℕ) (n : ℕ) (inside : Bool) → 2048 ≡ length out → decoded n out' ≡ decode word out → s ≡ take n out'
      → inside ≡ in_window c.device.base c.device.window address (length s)
      → m' ≡ (if inside then store m (offset c.device.base address) s else m)
      → written end t' ≡ put t at (either inside (characters "poke ok") (characters "poke outside"))
      → given (record { console = c; end = end }) m' t' ≡ tells (poke c m address (named word)) t at
  poke_is word out out' s n inside l e p i k h =
      poke_said s inside i k h ∙ ap (λ (s : List ℕ). tells (poke c m address s) t at) (p ∙ named_is word out out' n l e)
