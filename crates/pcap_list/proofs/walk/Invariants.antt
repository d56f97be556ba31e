use Rattle.pcap_list.proofs.Laws.{Walking}
use Rattle.pcap_list.proofs.walk.Given as goal

abbrev pub invariant-loop-entry : goal.invariant-loop-entry
invariant-loop-entry l = Walking l.list l.place l.frames l.entry-iterator.left.now
