-- Neither of the two changes the other. Assumes nothing.
use Prim.Native.Nat.{ℕ}
use mathlib.Core.Path.{◌≡◌, ap, ◌∙◌}
use mathlib.Core.Bool.{true, false}
use mathlib.Core.List.{List}
use Rattle.script.specs.Calls.{call_of}
use Rattle.kinds.specs.Kinds.{renews}
use Rattle.vic_script.specs.declared.VicCall.{VicCall}
use Rattle.std.specs.Prelude.{Some, None}
use Rattle.vic_script.specs.VicCalls.{vic_call_of}
use Rattle.vic_commands.specs.declared.Controllers.{Controllers}
use Rattle.vic_commands.specs.VicCommands.{reset}
use Rattle.board.specs.declared.Board.{Board}
use Rattle.board.specs.Board.{BoardAnswer, called, renewed, elsewhere, answer}
use Rattle.siblings.specs.Siblings.{LeavesEnet, AsByItself, Siblings}

module _ (b : Board) (m line : List ℕ) where
  by_call : (call : VicCall) → vic_call_of line ≡ Some call → answer b m line ≡ called b m call
  unfolding answer
  by_call call e = rw e

  by_other : vic_call_of line ≡ None → answer b m line ≡ elsewhere b m line
  unfolding answer
  by_other e = rw e

  leaves_enet : (call : VicCall) → vic_call_of line ≡ Some call → LeavesEnet b m line
  unfolding called
  leaves_enet call e =
      let h = by_call call e in
      record {
        device = ap (λ (a : BoardAnswer). a.board.console.device) h;
        lent = ap (λ (a : BoardAnswer). a.board.console.lent) h;
        bytes = ap (λ (a : BoardAnswer). a.memory) h;
      }

  as_by_itself : vic_call_of line ≡ None → AsByItself b m line
  unfolding elsewhere
  as_by_itself e =
      let h = by_other e in
      record {
        console = ap (λ (a : BoardAnswer). a.board.console) h;
        bytes = ap (λ (a : BoardAnswer). a.memory) h;
        says = ap (λ (a : BoardAnswer). a.says) h;
      }

  not_renewed : (c : Controllers) → renews (call_of line).command ≡ false → renewed line c ≡ c
  unfolding renewed
  not_renewed c e = rw e

  is_renewed : (c : Controllers) → renews (call_of line).command ≡ true → renewed line c ≡ reset
  unfolding renewed
  is_renewed c e = rw e

  renews_controllers : vic_call_of line ≡ None → renews (call_of line).command ≡ true → (answer b m line).board.controllers ≡ reset
  unfolding elsewhere
  renews_controllers e n = ap (λ (a : BoardAnswer). a.board.controllers) (by_other e) ∙ is_renewed b.controllers n

  leaves_controllers : vic_call_of line ≡ None → renews (call_of line).command ≡ false → (answer b m line).board.controllers ≡ b.controllers
  unfolding elsewhere
  leaves_controllers e n = ap (λ (a : BoardAnswer). a.board.controllers) (by_other e) ∙ not_renewed b.controllers n

pub siblings : Siblings
siblings =
    record {
      controllers_leave_enet = λ b m line call e. leaves_enet b m line call e;
      enet_by_itself = λ b m line e. as_by_itself b m line e;
      new_renews = λ b m line e n. renews_controllers b m line e n;
      enet_leaves_controllers = λ b m line e n. leaves_controllers b m line e n;
    }
