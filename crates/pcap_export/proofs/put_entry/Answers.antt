use Rattle.pcap_export.proofs.Turns.{record_is}
use Rattle.pcap_export.proofs.put_entry.Goals as goal

pub returns : goal.returns
returns c = search record_is
