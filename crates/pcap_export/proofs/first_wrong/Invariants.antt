-- No frame before what is left is wrong. Assumes nothing.
use Rattle.pcap_export.proofs.Turns.{Testing}
use Rattle.pcap_export.proofs.first_wrong.Given as goal

abbrev pub invariant-loop-entry : goal.invariant-loop-entry
invariant-loop-entry l = Testing l.list l.entry-iterator.left.now
