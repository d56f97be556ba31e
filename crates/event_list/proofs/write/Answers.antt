use Rattle.event_list.proofs.Laws.{whole_put}
use Rattle.event_list.proofs.write.Goals as goal

pub returns : goal.returns
returns c = search whole_put
