use mathlib.Core.Path.{refl, ◌∙◌}
use native.Mathlib.Omega.{arith}
use lib.ListN.{length-set}
use Rattle.memory.proofs.Laws.{all_stored}
use Rattle.number_list.proofs.Laws.{front_turn}
use Rattle.number_list.proofs.put.Goals as goal

pub loop-i-init : goal.loop-i-init
loop-i-init c = (refl, refl)

pub loop-i-preserved : goal.loop-i-preserved
loop-i-preserved c =
    let l = c.loop-i in
    let e = front_turn l.list c.args.numbers.now l.i (omega arith) in
    (simp length-set l.invariant.0, e ∙ l.invariant.1)

pub returns : goal.returns
returns c =
    let l = c.loop-i in
    all_stored c.args.list.now l.list c.args.numbers.now 0 l.i c.min-n.result l.invariant.0 (omega arith) (omega (arith, c.min-n.ensures)) l.invariant.1
