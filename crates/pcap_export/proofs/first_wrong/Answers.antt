use Rattle.std.proofs.Common.{refl, ap, ◌∙◌}
use Rattle.pcap_list.specs.declared.Entries.{Entries}
use Rattle.pcap_export.proofs.Refused.{err_number, not_zero}
use Rattle.pcap_export.proofs.Turns.{testing_begins, testing_finds, testing_on, testing_ends}
use Rattle.pcap_export.proofs.first_wrong.Goals as goal

pub loop-entry-init : goal.loop-entry-init
loop-entry-init c = testing_begins _ _ (ap (λ (e : Entries). e.left.now) c.into_iter-entry-iterator.ensures.into_iter_gives ∙ c.new-entry-items.ensures)

pub loop-entry-preserved : goal.loop-entry-preserved
loop-entry-preserved c =
    testing_on _ _ c.loop-entry.invariant _ _ _ c.in-Some.ensures.steps _ c.frame_of.ensures c.in_ok-fault.ensures refl

pub returns-in_err-fault : goal.returns-in_err-fault
returns-in_err-fault c =
    err_number _ _ c.from_residual.ensures
    ∙ testing_finds _ _ c.loop-entry.invariant _ _ _ c.in-Some.ensures.steps _ c.frame_of.ensures c.in_err-fault.ensures (not_zero _)

pub returns : goal.returns
returns c = testing_ends _ _ c.loop-entry.invariant c.in-None.ensures.steps.0
