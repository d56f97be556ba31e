use Rattle.pcap_list.proofs.Laws.{put_list, put_none, put_some}
use Rattle.pcap_list.proofs.put.Goals as goal

pub returns-then-end-eq0-clause-end : goal.returns-then-end-eq0-clause-end
returns-then-end-eq0-clause-end c = search put_none

pub returns-then-end-eq0-clause-after : goal.returns-then-end-eq0-clause-after
returns-then-end-eq0-clause-after c = search put_list

pub returns-else-end-eq0-clause-end : goal.returns-else-end-eq0-clause-end
returns-else-end-eq0-clause-end c = search put_some

pub returns-else-end-eq0-clause-after : goal.returns-else-end-eq0-clause-after
returns-else-end-eq0-clause-after c = search put_list
