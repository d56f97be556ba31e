-- 02, Wish 8: "a sibling register family"; "ENET stays as it is". Of every line that the console answers. Assumes nothing.
use Rattle.std.specs.Prelude.{ℕ, ◌≡◌, true, false, List}
use Rattle.script.specs.Calls.{call_of}
use Rattle.kinds.specs.Kinds.{renews}
use Rattle.commands.specs.Answering.{answer as console_answer}
use Rattle.vic_script.specs.declared.VicCall.{VicCall}
use Rattle.std.specs.Prelude.{Some, None}
use Rattle.vic_script.specs.VicCalls.{vic_call_of}
use Rattle.vic_commands.specs.VicCommands.{reset}
use Rattle.board.specs.declared.Board.{Board}
use Rattle.board.specs.Board.{answer}

-- a line that calls the controllers, and what it leaves of ENET
pub record LeavesEnet (b : Board) (memory line : List ℕ) : Type 0 where
  pub device : (answer b memory line).board.console.device ≡ b.console.device
  pub lent : (answer b memory line).board.console.lent ≡ b.console.lent
  pub bytes : (answer b memory line).memory ≡ memory

-- any other line is answered as ENET's console by itself answers it
pub record AsByItself (b : Board) (memory line : List ℕ) : Type 0 where
  pub console : (answer b memory line).board.console ≡ (console_answer b.console memory line).console
  pub bytes : (answer b memory line).memory ≡ (console_answer b.console memory line).memory
  pub says : (answer b memory line).says ≡ (console_answer b.console memory line).says

pub record Siblings : Type 0 where
  pub controllers_leave_enet : (b : Board) (memory line : List ℕ) (call : VicCall) → vic_call_of line ≡ Some call → LeavesEnet b memory line
  pub enet_by_itself : (b : Board) (memory line : List ℕ) → vic_call_of line ≡ None → AsByItself b memory line
  -- `new`: "both interrupt controllers are new too, all inputs low"
  pub new_renews : (b : Board) (memory line : List ℕ) → vic_call_of line ≡ None → renews (call_of line).command ≡ true
      → (answer b memory line).board.controllers ≡ reset
  -- and no other line of ENET's changes the controllers or their inputs
  pub enet_leaves_controllers : (b : Board) (memory line : List ℕ) → vic_call_of line ≡ None → renews (call_of line).command ≡ false
      → (answer b memory line).board.controllers ≡ b.controllers
