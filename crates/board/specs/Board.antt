-- docs/CONSOLE.md: a console line answered with the device and the interrupt controllers side by side. Assumes nothing.
use Rattle.std.specs.Prelude.{ℕ, Bool, List}
use Rattle.std.specs.Prelude.{if◌then◌else◌}
use Rattle.enet.specs.Access.{interrupt_line}
use Rattle.script.specs.Calls.{call_of}
use Rattle.kinds.specs.Kinds.{renews}
use Rattle.text.specs.Text.{Text, written, put}
use Rattle.commands.specs.Answering.{reset as reset_console, counted, answer as console_answer}
use Rattle.vic_script.specs.declared.VicCall.{VicCall}
use Rattle.std.specs.Prelude.{Option, Some, None}
use Rattle.vic_script.specs.VicCalls.{vic_call_of}
use Rattle.vic_commands.specs.declared.Controllers.{Controllers}
use Rattle.vic_commands.specs.VicCommands.{reset as reset_controllers, answer_to}
use Rattle.board.specs.declared.Board.{Board}
use Rattle.board.specs.declared.BoardTold.{BoardTold}

-- before the first line
unfoldable pub reset : Board
reset = record { console = reset_console; controllers = reset_controllers }

-- what answering a line gives: the board, the memory, and what is written
pub record BoardAnswer : Type 0 where
  pub board : Board
  pub memory : List ℕ
  pub says : List ℕ

-- ---- a line that calls the controllers

-- ENET's line, as the device has it
abbrev pub enet_line : Board → Bool
enet_line b = interrupt_line b.console.device

-- the controllers answer; of the console the line is counted, and the device and the memory stay
unfoldable pub called : Board → List ℕ → VicCall → BoardAnswer
called b m call =
    let s = answer_to call.command b.controllers (enet_line b) call.vic call.a call.b in
    record { board = record { console = counted b.console; controllers = s.controllers }; memory = m; says = s.says }

-- ---- any other line

-- `new`: "both interrupt controllers are new too, all inputs low", also when it answers 1
unfoldable pub renewed : List ℕ → Controllers → Controllers
renewed line c = if renews (call_of line).command then reset_controllers else c

-- the console answers, and no other line changes the controllers
unfoldable pub elsewhere : Board → List ℕ → List ℕ → BoardAnswer
elsewhere b m line =
    let a = console_answer b.console m line in
    record { board = record { console = a.console; controllers = renewed line b.controllers }; memory = a.memory; says = a.says }

-- ---- the answer to a line

abbrev pub answer_by : Option VicCall → Board → List ℕ → List ℕ → BoardAnswer
answer_by (Some call) b m line = called b m call
answer_by None b m line = elsewhere b m line

unfoldable pub answer : Board → List ℕ → List ℕ → BoardAnswer
answer b m line = answer_by (vic_call_of line) b m line

-- ---- an answer in a lent buffer

pub record Given : Type 0 where
  pub board : Board
  pub memory : List ℕ
  pub text : Text

-- what the code's answer, the memory and the buffer at its end say together, and an answer written from `at` on
abbrev pub given : BoardTold → List ℕ → List ℕ → Given
given r m t = record { board = r.board; memory = m; text = written r.end t }

abbrev pub tells : BoardAnswer → List ℕ → ℕ → Given
tells a t at = record { board = a.board; memory = a.memory; text = put t at a.says }
