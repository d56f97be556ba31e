use Rattle.event_list.proofs.Laws.{frame_put}
use Rattle.event_list.proofs.frame.Goals as goal

pub returns : goal.returns
returns c = search frame_put
