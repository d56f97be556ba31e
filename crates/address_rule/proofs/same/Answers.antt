-- `address_rule::same` meets its contract. The loop's invariant: what is left decides.
-- Assumes nothing.
use mathlib.Core.Path.{refl, sym, ◌∙◌}
use native.Mathlib.Omega.{arith}
use Rattle.address_rule.proofs.Comparison.{same_lengths, same_other, same_turn, same_end}
use Rattle.address_rule.proofs.same.Goals as goal

pub returns-then-a-b : goal.returns-then-a-b
returns-then-a-b c = search same_lengths

pub loop-i-init : goal.loop-i-init
loop-i-init c = refl

pub returns-then-a-i : goal.returns-then-a-i
returns-then-a-i c =
    let args = c.args in
    sym (c.loop-i.invariant ∙ same_other args.a.now args.b.now c.loop-i.i (omega arith) (omega arith) c.if-a-i.true)

pub loop-i-preserved : goal.loop-i-preserved
loop-i-preserved c =
    let args = c.args in
    c.loop-i.invariant ∙ same_turn args.a.now args.b.now c.loop-i.i (omega arith) (omega arith) c.if-a-i.false

pub returns : goal.returns
returns c =
    let args = c.args in
    sym (c.loop-i.invariant ∙ same_end args.a.now args.b.now c.loop-i.i (omega arith) (omega arith))
