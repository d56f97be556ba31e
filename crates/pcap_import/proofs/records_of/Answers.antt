use Rattle.pcap_import.proofs.Filling.{part_behind}
use Rattle.pcap_import.proofs.records_of.Goals as goal

pub returns : goal.returns
returns c = search part_behind
