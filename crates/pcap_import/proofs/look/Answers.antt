use Rattle.std.proofs.Common.{refl}
use native.Mathlib.Omega.{arith}
use Rattle.pcap_import.proofs.Ways.{answer_refused, not_zero, bad_header, bad_record, not_storable, need, no_events, no_times, says}
use Rattle.pcap_import.proofs.look.Goals as goal

pub returns-in_err-header_fault : goal.returns-in_err-header_fault
returns-in_err-header_fault c =
    bad_header _ _ _ _ c.in_err-header_fault.ensures _ (not_zero _) (answer_refused _ _ c.from_residual.ensures)

pub returns-in_err-walked : goal.returns-in_err-walked
returns-in_err-walked c =
    bad_record _ _ _ _ c.in_ok-header_fault.ensures refl _ c.records_of-records.ensures _ c.in_err-walked.ensures.number _ (not_zero _) (answer_refused _ _ c.from_residual-in_err-walked.ensures)

pub returns-then-not-walked : goal.returns-then-not-walked
returns-then-not-walked c =
    not_storable _ _ _ _ c.in_ok-header_fault.ensures refl _ c.records_of-records.ensures _ c.in_ok-walked.ensures.number refl _ c.in_ok-walked.ensures.walked _ c.if-not-walked.true refl

pub overflow_mul-bytes : goal.overflow_mul-bytes
overflow_mul-bytes c =
    let n = need _ 0 0 _ c.in_ok-header_fault.ensures refl _ c.records_of-records.ensures _ c.in_ok-walked.ensures.number refl _ c.in_ok-walked.ensures.walked in let few = n.1 in omega arith

pub overflow_sub-bytes : goal.overflow_sub-bytes
overflow_sub-bytes c =
    let n = need _ 0 0 _ c.in_ok-header_fault.ensures refl _ c.records_of-records.ensures _ c.in_ok-walked.ensures.number refl _ c.in_ok-walked.ensures.walked in let few = n.1 in omega arith

pub returns-then-events-bytes : goal.returns-then-events-bytes
returns-then-events-bytes c =
    no_events _ _ _ _ c.in_ok-header_fault.ensures refl _ c.records_of-records.ensures _ c.in_ok-walked.ensures.number refl _ c.in_ok-walked.ensures.walked c.if-not-walked.false _ c.if-events-bytes.true refl

pub overflow_mul-walked : goal.overflow_mul-walked
overflow_mul-walked c =
    let n = need _ 0 0 _ c.in_ok-header_fault.ensures refl _ c.records_of-records.ensures _ c.in_ok-walked.ensures.number refl _ c.in_ok-walked.ensures.walked in let few = n.1 in omega arith

pub returns-then-times-walked : goal.returns-then-times-walked
returns-then-times-walked c =
    no_times _ _ _ _ c.in_ok-header_fault.ensures refl _ c.records_of-records.ensures _ c.in_ok-walked.ensures.number refl _ c.in_ok-walked.ensures.walked c.if-not-walked.false c.if-events-bytes.false _ c.if-times-walked.true refl

pub returns : goal.returns
returns c =
    says _ _ _ _ c.in_ok-header_fault.ensures refl _ c.records_of-records.ensures _ c.in_ok-walked.ensures.number refl _ c.in_ok-walked.ensures.walked c.if-not-walked.false c.if-events-bytes.false c.if-times-walked.false
