-- The records of the entries that are left make the rest of the file. Assumes nothing.
use Rattle.pcap_export.proofs.Turns.{Putting}
use Rattle.pcap_export.proofs.put_all.Given as goal

abbrev pub invariant-loop-entry : goal.invariant-loop-entry
invariant-loop-entry l = Putting l.list l.initial.room l.at l.entry-iterator.left.now l.room
