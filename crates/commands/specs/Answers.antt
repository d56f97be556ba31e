-- What answering a line gives: the next console, the memory, and what is written. Assumes nothing.
use Rattle.std.specs.Prelude.{ℕ, List}
use Rattle.enet.specs.declared.Enet.{Enet}
use Rattle.enet.specs.declared.Answered.{Answered}
use Rattle.text.specs.Text.{Text, written, put}
use Rattle.commands.specs.declared.Console.{Console}
use Rattle.commands.specs.declared.Told.{Told}

pub record Answer : Type 0 where
  pub console : Console
  pub memory : List ℕ
  pub says : List ℕ

abbrev pub answers : Console → List ℕ → List ℕ → Answer
answers c m s = record { console = c; memory = m; says = s }

-- the console with another device
abbrev pub with_device : Console → Enet → Console
with_device c d = record { device = d; lent = c.lent; lines = c.lines }

-- the console with a new bench, whose window is lent
abbrev pub with_bench : Console → Answered → Console
with_bench c a = record { device = a.device; lent = a.device.window; lines = c.lines }

-- an answer that was written into a lent buffer
pub record Given : Type 0 where
  pub console : Console
  pub memory : List ℕ
  pub text : Text

-- what the code's answer, the memory and the buffer at its end say together
abbrev pub given : Told → List ℕ → List ℕ → Given
given r m t = record { console = r.console; memory = m; text = written r.end t }

-- an answer written from `at` on
abbrev pub tells : Answer → List ℕ → ℕ → Given
tells a t at = record { console = a.console; memory = a.memory; text = put t at a.says }
