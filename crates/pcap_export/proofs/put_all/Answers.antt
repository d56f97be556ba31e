use Rattle.std.proofs.Common.{refl, ap, ◌∙◌}
use Rattle.pcap_list.specs.declared.Entries.{Entries}
use Rattle.pcap_export.proofs.Turns.{putting_begins, putting_on, putting_ends}
use Rattle.pcap_export.proofs.put_all.Goals as goal

pub loop-entry-init : goal.loop-entry-init
loop-entry-init c =
    putting_begins _ _ _ (ap (λ (e : Entries). e.left.now) c.into_iter-entry-iterator.ensures.into_iter_gives ∙ c.new-entry-items.ensures) c.requires.0 c.requires.1

pub loop-entry-preserved : goal.loop-entry-preserved
loop-entry-preserved c = putting_on _ _ _ _ _ c.loop-entry.invariant _ _ c.in-Some.ensures.steps _ _ refl c.put_entry.ensures

pub returns : goal.returns
returns c = putting_ends _ _ _ _ _ c.loop-entry.invariant c.in-None.ensures.steps.0
