-- The records that are left fill both rooms as all do. Assumes nothing.
use Prim.Native.Nat.{◌^◌, ◌<◌}
use lib.ListN.{length}
use Rattle.pcap_import.proofs.Filling.{Filling}
use Rattle.pcap_import.proofs.frames.put_all.Given as goal

abbrev pub invariant-loop-record : goal.invariant-loop-record
invariant-loop-record l =
    Filling l.records l.initial.events l.initial.times l.record-iterator.left.now l.to l.time l.events l.times × (length l.records < 2 ^ 64)
