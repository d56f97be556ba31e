use Rattle.pcap_export.proofs.Turns.{frame_is}
use Rattle.pcap_export.proofs.frame_of.Goals as goal

pub returns : goal.returns
returns c = search frame_is
