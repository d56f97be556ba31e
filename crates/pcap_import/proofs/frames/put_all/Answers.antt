use Rattle.std.proofs.Common.{refl, ap, ◌∙◌}
use native.Mathlib.Omega.{arith}
use Rattle.pcap_records.specs.declared.Records.{Records}
use Rattle.pcap_import.proofs.Filling.{filling_begins, filling_room, filling_least, filling_on, filling_ends}
use Rattle.pcap_import.proofs.frames.put_all.Goals as goal

pub loop-record-init : goal.loop-record-init
loop-record-init c =
    (filling_begins _ _ _ _ (ap (λ (r : Records). r.left.now) c.into_iter-record-iterator.ensures.into_iter_gives ∙ c.new-record-items.ensures), omega arith)

pub put_event-requires : goal.put_event-requires
put_event-requires c =
    let r = (filling_room _ _ _ _ _ _ _ _ c.loop-record.invariant.0 _ _ c.in-Some.ensures.steps).0 in let few = c.loop-record.invariant.1 in omega arith

pub overflow_sub-to : goal.overflow_sub-to
overflow_sub-to c = let l = filling_least _ _ _ _ _ _ _ _ c.loop-record.invariant.0 _ _ c.in-Some.ensures.steps in omega arith

pub overflow_add-to : goal.overflow_add-to
overflow_add-to c =
    let r = (filling_room _ _ _ _ _ _ _ _ c.loop-record.invariant.0 _ _ c.in-Some.ensures.steps).0 in let few = c.loop-record.invariant.1 in omega arith

pub overflow_add-time : goal.overflow_add-time
overflow_add-time c =
    let r = (filling_room _ _ _ _ _ _ _ _ c.loop-record.invariant.0 _ _ c.in-Some.ensures.steps).1 in let few = c.loop-record.invariant.1 in let l = filling_least _ _ _ _ _ _ _ _ c.loop-record.invariant.0 _ _ c.in-Some.ensures.steps in omega arith

pub loop-record-preserved : goal.loop-record-preserved
loop-record-preserved c =
    (filling_on _ _ _ _ _ _ _ _ c.loop-record.invariant.0 _ _ c.in-Some.ensures.steps _ _ _ refl c.put_event.ensures c.put_time.ensures, c.loop-record.invariant.1)

pub shape_of-events : goal.shape_of-events
shape_of-events c = c.loop-record.invariant.0.same_events

pub shape_of-times : goal.shape_of-times
shape_of-times c = c.loop-record.invariant.0.same_times

pub returns : goal.returns
returns c = filling_ends _ _ _ _ _ _ _ _ c.loop-record.invariant.0 c.in-None.ensures.steps.0
