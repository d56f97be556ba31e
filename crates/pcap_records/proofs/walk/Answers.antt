use Rattle.std.proofs.Common.{refl, sym, ◌∙◌}
use native.Mathlib.Omega.{arith}
use Rattle.pcap_records.proofs.Walks.{walking_begins, walking_room, walking_least, walking_on, walking_stops, walking_ends}
use Rattle.pcap_records.proofs.walk.Goals as goal

pub loop-n-init : goal.loop-n-init
loop-n-init c = walking_begins _

pub overflow_add-place : goal.overflow_add-place
overflow_add-place c = let r = walking_room _ _ _ _ c.loop-n.invariant _ (sym c.in-Ok-Some.field-0-is ∙ c.in-Ok-Some.ensures.0) in omega arith

pub loop-n-smaller : goal.loop-n-smaller
loop-n-smaller c =
    let r = walking_room _ _ _ _ c.loop-n.invariant _ (sym c.in-Ok-Some.field-0-is ∙ c.in-Ok-Some.ensures.0) in
    let l = walking_least _ _ _ _ c.loop-n.invariant _ (sym c.in-Ok-Some.field-0-is ∙ c.in-Ok-Some.ensures.0) in
    omega arith

pub loop-n-preserved : goal.loop-n-preserved
loop-n-preserved c = walking_on _ _ _ _ c.loop-n.invariant _ (sym c.in-Ok-Some.field-0-is ∙ c.in-Ok-Some.ensures.0) _ refl

pub returns-in-Ok-None-clause-number : goal.returns-in-Ok-None-clause-number
returns-in-Ok-None-clause-number c = c.in-Ok-None.ensures.1 ∙ walking_stops _ _ _ _ c.loop-n.invariant (sym c.in-Ok-None.field-0-is ∙ c.in-Ok-None.ensures.0)

pub returns-in-Ok-None-clause-walked : goal.returns-in-Ok-None-clause-walked
returns-in-Ok-None-clause-walked c = walking_ends _ _ _ _ c.loop-n.invariant (sym c.in-Ok-None.field-0-is ∙ c.in-Ok-None.ensures.0)

pub returns-in-Err-clause-number : goal.returns-in-Err-clause-number
returns-in-Err-clause-number c = c.in-Err.ensures.1 ∙ walking_stops _ _ _ _ c.loop-n.invariant c.in-Err.ensures.0

pub returns-in-Err-clause-walked : goal.returns-in-Err-clause-walked
returns-in-Err-clause-walked c = walking_ends _ _ _ _ c.loop-n.invariant c.in-Err.ensures.0
