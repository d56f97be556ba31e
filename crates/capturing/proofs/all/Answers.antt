-- `capturing::all` meets its contract. The loop's invariant: the events from here on give what all of them give from the start. Assumes nothing.
use mathlib.Core.Path.{refl, ◌∙◌}
use native.Mathlib.Omega.{arith}
use Rattle.capturing.proofs.Turns.{going_begins, going_room, going_on, going_ends}
use Rattle.capturing.proofs.all.Goals as goal

pub loop-n-init : goal.loop-n-init
loop-n-init c = (search going_begins, (omega arith, (refl, (refl, refl))))

pub overflow_add-place : goal.overflow_add-place
overflow_add-place c =
    let r = going_room _ _ _ _ _ _ c.loop-n.invariant.0 in let few = c.loop-n.invariant.1.0 in omega arith

pub overflow_add-i : goal.overflow_add-i
overflow_add-i c =
    let r = going_room _ _ _ _ _ _ c.loop-n.invariant.0 in let f = c.loop-n.invariant.0.few in let few = c.loop-n.invariant.1.0 in omega arith

pub loop-n-smaller : goal.loop-n-smaller
loop-n-smaller c = let r = going_room _ _ _ _ _ _ c.loop-n.invariant.0 in omega arith

pub loop-n-preserved : goal.loop-n-preserved
loop-n-preserved c =
    let l = c.loop-n in
    let o = c.event-day in
    let on = going_on _ _ _ _ _ _ l.invariant.0 _ _ c.loop-n-test.true o.ensures c.size_at-n-in-loop-n.ensures in
    (on, (l.invariant.1.0, (o.auto.memory ∙ l.invariant.1.1.0, (o.auto.output ∙ l.invariant.1.1.1.0, o.auto.list ∙ l.invariant.1.1.1.1))))

pub returns : goal.returns
returns c = going_ends _ _ _ _ _ _ c.loop-n.invariant.0 c.loop-n-test.false
