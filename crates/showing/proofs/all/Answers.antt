-- `showing::all` meets its contract. Assumes nothing.
use Rattle.std.proofs.Common.{arith}
use Rattle.showing.proofs.Laws.{showing_room, showing_on, showing_ends}
use Rattle.showing.proofs.all.Goals as goal

pub overflow_add-place : goal.overflow_add-place
overflow_add-place g c =
    let r = showing_room _ _ _ _ _ c.loop-n.invariant.0 in
    let few = c.loop-n.invariant.1 in
    omega arith

pub loop-n-smaller : goal.loop-n-smaller
loop-n-smaller g c =
    let r = showing_room _ _ _ _ _ c.loop-n.invariant.0 in
    let some = c.loop-n-test.true in
    omega arith

pub loop-n-preserved : goal.loop-n-preserved
loop-n-preserved g c =
    (showing_on _ _ _ _ _ _ _ c.loop-n.invariant.0 c.loop-n-test.true c.event-day.ensures c.size_at-n-in-loop-n.ensures, c.loop-n.invariant.1)

pub returns : goal.returns
returns g c = showing_ends _ _ _ _ _ c.loop-n.invariant.0 c.loop-n-test.false
