use Rattle.memory.proofs.Laws.{store_out}
use Rattle.pcap_import.proofs.Filling.{time_put}
use Rattle.pcap_import.proofs.frames.put_time.Goals as goal

pub returns-then-times-at : goal.returns-then-times-at
returns-then-times-at c = search store_out

pub returns : goal.returns
returns c = search time_put
