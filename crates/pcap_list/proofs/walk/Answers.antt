use native.Mathlib.Omega.{arith}
use Rattle.pcap_list.proofs.Laws.{walking_room, walking_whole, walking_other}
use Rattle.pcap_list.proofs.walk.Goals as goal

pub overflow_add-place : goal.overflow_add-place
overflow_add-place c = let r = (walking_room _ _ _ _ c.loop-entry.invariant _ _ c.in-Some.ensures.steps).0 in omega arith

pub overflow_add-frames : goal.overflow_add-frames
overflow_add-frames c = let r = (walking_room _ _ _ _ c.loop-entry.invariant _ _ c.in-Some.ensures.steps).1 in omega arith

pub returns-then-place-list : goal.returns-then-place-list
returns-then-place-list c = walking_whole _ _ _ _ c.loop-entry.invariant c.in-None.ensures.steps.0 c.if-place-list.true

pub returns-else-place-list : goal.returns-else-place-list
returns-else-place-list c = walking_other _ _ _ _ c.loop-entry.invariant c.in-None.ensures.steps.0 c.if-place-list.false
