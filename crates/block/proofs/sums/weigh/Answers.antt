-- `block::sums::weigh` meets its contract. The loop's invariant: the sum of the places passed and that of the places left are the whole sum,
-- and each place passed added at most 323,850. Assumes nothing.
use native.Mathlib.Nat.{zero-add}
use native.Mathlib.Omega.{arith}
use Rattle.block.proofs.Weights.{weigh_turn, weigh_end}
use Rattle.block.proofs.sums.weigh.Goals as goal

pub loop-i-init : goal.loop-i-init
loop-i-init c = (omega arith, (omega arith, (omega arith, zero-add _)))

pub loop-i-preserved : goal.loop-i-preserved
loop-i-preserved c =
    let l = c.loop-i in
    let small = c.four-sum.ensures.1 in
    let turn =
    weigh_turn c.args.a.now c.args.b.now c.args.c.now c.args.d.now c.requires.0 c.requires.1.0 c.requires.1.1.0 c.requires.1.1.1
    l.i l.weight l.sum _ _ (omega arith) l.invariant.1.0 l.invariant.1.1.1 c.four-sum.ensures.0 in
    (omega arith, (omega arith, (omega arith, turn)))

pub returns : goal.returns
returns c =
    let l = c.loop-i in
    weigh_end c.args.a.now c.args.b.now c.args.c.now c.args.d.now c.requires.0 c.requires.1.0 c.requires.1.1.0 c.requires.1.1.1
    l.i l.sum _ (omega arith) l.invariant.1.1.1
