-- `trace::walk_in` meets its contract. The loop's invariant: so many events lie before this place, and the one here has n bytes.
-- Assumes nothing.
use native.Mathlib.Omega.{arith}
use Rattle.trace.proofs.Bytes.{there_begins, there_room, there_on, there_ends}
use Rattle.trace.proofs.walk_in.Goals as goal

pub end_of-end-requires : goal.end_of-end-requires
end_of-end-requires c = c.requires.0

pub loop-n-init : goal.loop-n-init
loop-n-init c = there_begins _ _ _ c.requires c.end_of-end.ensures _ c.size-n.ensures

pub overflow_add-place : goal.overflow_add-place
overflow_add-place c =
    let room = there_room _ _ _ c.requires c.end_of-end.ensures _ _ _ c.loop-n.invariant in
    let least = room.1 in
    let fits = room.0 in
    omega arith

pub overflow_add-events : goal.overflow_add-events
overflow_add-events c =
    let room = there_room _ _ _ c.requires c.end_of-end.ensures _ _ _ c.loop-n.invariant in
    let least = room.1 in
    let fits = room.0 in
    omega arith

pub overflow_add-place-in-loop-n : goal.overflow_add-place-in-loop-n
overflow_add-place-in-loop-n c =
    let room = there_room _ _ _ c.requires c.end_of-end.ensures _ _ _ c.loop-n.invariant in
    let least = room.1 in
    let fits = room.0 in
    omega arith

pub loop-n-smaller : goal.loop-n-smaller
loop-n-smaller c =
    let room = there_room _ _ _ c.requires c.end_of-end.ensures _ _ _ c.loop-n.invariant in
    let least = room.1 in
    let fits = room.0 in
    omega arith

pub loop-n-preserved : goal.loop-n-preserved
loop-n-preserved c = there_on _ _ _ c.requires c.end_of-end.ensures _ _ _ _ c.loop-n.invariant c.loop-n-test.true c.size-n-in-loop-n.ensures

pub overflow_add-place-2 : goal.overflow_add-place-2
overflow_add-place-2 c =
    let room = there_room _ _ _ c.requires c.end_of-end.ensures _ _ _ c.loop-n.invariant in
    let least = room.1 in
    let fits = room.0 in
    omega arith

pub overflow_sub-end : goal.overflow_sub-end
overflow_sub-end c =
    let room = there_room _ _ _ c.requires c.end_of-end.ensures _ _ _ c.loop-n.invariant in
    let least = room.1 in
    let fits = room.0 in
    omega arith

pub overflow_sub-end-2 : goal.overflow_sub-end-2
overflow_sub-end-2 c =
    let room = there_room _ _ _ c.requires c.end_of-end.ensures _ _ _ c.loop-n.invariant in
    let least = room.1 in
    let fits = room.0 in
    omega arith

pub returns : goal.returns
returns c = there_ends _ _ _ c.requires c.end_of-end.ensures _ _ _ _ _ c.loop-n.invariant c.loop-n-test.false c.byte.ensures c.ends.ensures
