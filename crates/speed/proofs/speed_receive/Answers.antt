-- `speed::speed_receive` meets its contract. The loop's invariant: the rounds left, run from here, give what all of them give.
-- Assumes nothing.
use mathlib.Core.Path.{refl, sym, ◌∙◌}
use native.Mathlib.Omega.{arith}
use Rattle.timing.proofs.Laws.{rounds_turn, rounds_end}
use Rattle.speed.proofs.speed_receive.Goals as goal

pub loop-left-init : goal.loop-left-init
loop-left-init c = (omega arith, (refl, refl))

pub loop-left-preserved : goal.loop-left-preserved
loop-left-preserved c =
    let l = c.loop-left in
    let r = c.receive_round-a in (
      omega arith,
      (
        r.auto.memory ∙ l.invariant.1.0,
        rounds_turn _ l.left l.taken c.passed-taken.result _ _ _ _ (omega arith) r.ensures c.passed-taken.ensures.0 ∙ l.invariant.1.1,
      ),
    )

pub returns : goal.returns
returns c =
    let l = c.loop-left in
    sym (rounds_end _ l.left _ _ _ (omega arith)) ∙ rw c.bench-device.ensures at l.invariant.1.1
