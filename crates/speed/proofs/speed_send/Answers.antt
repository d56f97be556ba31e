-- `speed::speed_send` meets its contract, as `speed_receive` does. Assumes nothing.
use mathlib.Core.Path.{refl, sym, ◌∙◌}
use native.Mathlib.Omega.{arith}
use Rattle.speed.proofs.Laws.{send_turn, send_end}
use Rattle.speed.proofs.speed_send.Goals as goal

pub loop-left-init : goal.loop-left-init
loop-left-init c = (omega arith, (refl, (refl, refl)))

pub loop-left-preserved : goal.loop-left-preserved
loop-left-preserved c =
    let l = c.loop-left in
    let r = c.send_round-s in
    let t = send_turn l.left l.gone c.passed-gone.result _ _ _ _ _ _ (omega arith) r.ensures c.passed-gone.ensures.0 in
    (omega arith, (r.auto.memory ∙ l.invariant.1.0, (r.auto.output ∙ l.invariant.1.1.0, t ∙ l.invariant.1.1.1)))

pub returns : goal.returns
returns c =
    let l = c.loop-left in
    sym (send_end l.left _ _ _ _ (omega arith)) ∙ rw c.bench-device.ensures at l.invariant.1.1.1
