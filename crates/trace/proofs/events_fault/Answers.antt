use mathlib.Core.Path.{ap, ◌∙◌}
use Rattle.std.proofs.lemmas.Result.{err_from_is_err_and}
use Rattle.answer.specs.Refusals.{refusal_number}
use Rattle.trace.specs.Passes.{verdict}
use Rattle.trace.proofs.Passes.{stray_bad, tested_bad, cut_bad, all_right}
use Rattle.trace.proofs.events_fault.Goals as goal

pub returns-in-NoEvent : goal.returns-in-NoEvent
returns-in-NoEvent c = ap (λ x. verdict (refusal_number x.refusal) x.block) c.bad_event.ensures ∙ stray_bad _ _ _ c.in-NoEvent.is

pub returns-in_err-blocks : goal.returns-in_err-blocks
returns-in_err-blocks c =
    let p = err_from_is_err_and c.from_residual.result c.from_residual.ensures.1 in
    rw (p.1, p.2) (tested_bad _ _ _ c.in_err-blocks.field-0.0 c.in_default.not-NoEvent c.in_err-blocks.was)

pub returns-in-Cut : goal.returns-in-Cut
returns-in-Cut c =
    ap (λ x. verdict (refusal_number x.refusal) x.block) c.bad_event-in-Cut.ensures ∙ cut_bad _ _ _ _ c.in-Cut.is c.in_ok-blocks.was

pub returns : goal.returns
returns c = all_right _ _ _ _ c.in_default.not-NoEvent c.in_default-ending.not-Cut c.in_ok-blocks.was
