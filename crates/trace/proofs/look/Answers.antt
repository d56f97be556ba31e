use mathlib.Core.Path.{refl, sym, ap, ◌∙◌}
use Rattle.answer.specs.Refusals.{refusal_number}
use Rattle.stream.specs.Blocks.{fault_of}
use Rattle.trace.specs.Reading.{refused}
use Rattle.trace.proofs.Looked.{some_whole, look_first}
use Rattle.trace.proofs.look.Goals as goal

pub look_behind-requires : goal.look_behind-requires
look_behind-requires c = (c.in-Ok.ensures, (refl, some_whole _ _ c.in-Ok.ensures))

pub returns-in-Err : goal.returns-in-Err
returns-in-Err c =
    let first = c.if-refused-eq0.true in
    look_first _ _ _ c.in-Err.ensures first _ (ap (refused (refusal_number c.in-Err.refused.refusal)) first)

pub look_behind-requires-in-Err-2 : goal.look_behind-requires-in-Err-2
look_behind-requires-in-Err-2 c =
    let same = ap (λ r. (fault_of r).block) (sym c.in-Err.is ∙ c.in-Err-2.is) in
    (c.first_fault-tested.ensures, (sym (ap (λ r. (fault_of r).block) c.in-Err-2.is), λ z. c.if-refused-eq0.false (same ∙ z)))
