use Rattle.event_list.proofs.Laws.{grant_put}
use Rattle.event_list.proofs.grant.Goals as goal

pub returns : goal.returns
returns c = search grant_put
