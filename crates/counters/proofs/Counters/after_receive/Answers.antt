use Rattle.counters.proofs.Laws.{receive_delivers, receive_loses}
use Rattle.counters.proofs.Counters.after_receive.Goals as goal

pub returns-in-0 : goal.returns-in-0
returns-in-0 c = search receive_delivers

pub returns-in-8 : goal.returns-in-8
returns-in-8 c = search receive_loses
