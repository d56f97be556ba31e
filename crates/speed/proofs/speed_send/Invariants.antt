-- `speed::speed_send` meets its contract, as `speed_receive` does. Assumes nothing.
use mathlib.Core.Path.{◌≡◌}
use Prim.Native.Nat.{◌+◌, ◌≤◌}
use lib.ListN.{length}
use Rattle.speed.specs.Rounds.{send_rounds}
use Rattle.speed.proofs.speed_send.Given as goal

abbrev pub invariant-loop-left : goal.invariant-loop-left
invariant-loop-left l =
    (l.gone + l.left ≤ l.rounds) × ((length l.memory ≡ length l.initial.memory) × ((length l.output ≡ length l.initial.output) × (send_rounds l.left l.gone l.device l.memory l.output ≡ send_rounds l.rounds 0 l.initial.device l.initial.memory l.initial.output)))

abbrev pub decreases-loop-left : goal.decreases-loop-left
decreases-loop-left l = l.left
