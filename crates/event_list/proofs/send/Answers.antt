use Rattle.event_list.proofs.Laws.{send_put}
use Rattle.event_list.proofs.send.Goals as goal

pub returns : goal.returns
returns c = search send_put
