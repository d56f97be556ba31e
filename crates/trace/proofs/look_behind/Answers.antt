-- `trace::look_behind` meets its contract. The places on the way, from the last back: what both passes found, the walk along the
-- events, a header that is right, the first fault. Assumes nothing.
use mathlib.Core.Path.{refl, ap}
use native.Mathlib.Omega.{arith}
use borrow.Author.Tests.{eqb-false}
use Rattle.std.proofs.lemmas.Result.{err_from_is_err_and}
use Rattle.answer.specs.Refusals.{refusal_number}
use Rattle.answer.proofs.Laws.{not_done}
use Rattle.trace.specs.Reading.{refused}
use Rattle.trace.proofs.Looked.{begun, judging, sound_so_far, header_there, place_there, look_header, look_events, look_room, look_good}
use Rattle.trace.proofs.look_behind.Goals as goal

pub header_fault-requires : goal.header_fault-requires
header_fault-requires c =
    let e = begun _ _ _ c.requires.0 c.requires.1.0 in
    sound_so_far _ _ e c.requires.1.1

pub returns-then-header_fault : goal.returns-then-header_fault
returns-then-header_fault c =
    let e = begun _ _ _ c.requires.0 c.requires.1.0 in
    look_header _ _ _ e c.requires.1.1 _ c.header_fault.ensures c.if-header_fault.true _
    (ap (λ x. refused (refusal_number x.refusal) x.block) c.bad_event.ensures)

pub walk_in-walked-requires : goal.walk_in-walked-requires
walk_in-walked-requires c =
    let e = begun _ _ _ c.requires.0 c.requires.1.0 in
    header_there _ _ e c.requires.1.1 _ c.header_fault.ensures c.if-header_fault.false

pub events_fault-requires : goal.events_fault-requires
events_fault-requires c =
    let e = begun _ _ _ c.requires.0 c.requires.1.0 in
    let same = c.requires.1.0 in
    let p = place_there _ _ e c.requires.1.1 _ c.header_fault.ensures c.if-header_fault.false _ c.walk_in-walked.ensures (omega arith) in
    let some = p.1 in
    (p.0, omega arith)

pub returns-in_err-events_fault : goal.returns-in_err-events_fault
returns-in_err-events_fault c =
    let e = begun _ _ _ c.requires.0 c.requires.1.0 in
    let d = judging _ _ _ _ _ c.requires.1.0 c.in_err-events_fault.ensures in
    let p = err_from_is_err_and c.from_residual.result c.from_residual.ensures.1 in
    rw (p.1, p.2)
    (look_events _ _ _ e c.requires.1.1 _ c.header_fault.ensures c.if-header_fault.false _ c.walk_in-walked.ensures _ d
    (eqb-false _ 0 (not_done c.in_err-events_fault.field-0.0.refusal)) _ refl)

pub end_of-bytes-requires : goal.end_of-bytes-requires
end_of-bytes-requires c =
    let e = begun _ _ _ c.requires.0 c.requires.1.0 in
    sound_so_far _ _ e c.requires.1.1

pub overflow_sub-bytes : goal.overflow_sub-bytes
overflow_sub-bytes c =
    let e = begun _ _ _ c.requires.0 c.requires.1.0 in
    let h = (header_there _ _ e c.requires.1.1 _ c.header_fault.ensures c.if-header_fault.false).1 in
    let l = c.end_of-bytes.ensures in
    omega arith

pub returns-then-room-bytes : goal.returns-then-room-bytes
returns-then-room-bytes c =
    let e = begun _ _ _ c.requires.0 c.requires.1.0 in
    let d = judging _ _ _ _ _ c.requires.1.0 c.in_ok-events_fault.ensures in
    look_room _ _ _ e c.requires.1.1 _ c.header_fault.ensures c.if-header_fault.false _ c.walk_in-walked.ensures _ d refl _
    c.end_of-bytes.ensures c.if-room-bytes.true _ refl

pub returns : goal.returns
returns c =
    let e = begun _ _ _ c.requires.0 c.requires.1.0 in
    let d = judging _ _ _ _ _ c.requires.1.0 c.in_ok-events_fault.ensures in
    look_good _ _ _ e c.requires.1.1 _ c.header_fault.ensures c.if-header_fault.false _ c.walk_in-walked.ensures _ d refl _
    c.end_of-bytes.ensures c.if-room-bytes.false _ _ c.base_of.ensures c.window_of.ensures
