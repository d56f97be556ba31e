use native.Mathlib.Omega.{arith}
use Rattle.event.proofs.Laws.{walking_begins, walking_room, walking_on, walking_ends}
use Rattle.event.proofs.walk.Goals as goal

pub loop-n-init : goal.loop-n-init
loop-n-init c = search walking_begins

pub overflow_add-place : goal.overflow_add-place
overflow_add-place c =
    let r = walking_room _ _ _ _ c.loop-n.invariant in
    omega arith

pub overflow_add-events : goal.overflow_add-events
overflow_add-events c =
    let r = walking_room _ _ _ _ c.loop-n.invariant in
    let a = c.loop-n.invariant.1.0 in
    omega arith

pub loop-n-smaller : goal.loop-n-smaller
loop-n-smaller c =
    let r = walking_room _ _ _ _ c.loop-n.invariant in
    omega arith

pub loop-n-preserved : goal.loop-n-preserved
loop-n-preserved c = search walking_on

pub overflow_sub-list : goal.overflow_sub-list
overflow_sub-list c = c.loop-n.invariant.1.1.0

pub returns : goal.returns
returns c = search walking_ends
