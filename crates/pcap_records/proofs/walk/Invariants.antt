use Prim.Native.Nat.{◌-◌}
use lib.ListN.{length}
use Rattle.pcap_records.proofs.Walks.{Walking}
use Rattle.pcap_records.proofs.walk.Given as goal

abbrev pub invariant-loop-n : goal.invariant-loop-n
invariant-loop-n l = Walking l.records l.place l.frames l.storable

abbrev pub decreases-loop-n : goal.decreases-loop-n
decreases-loop-n l = length l.records - l.place
