use Rattle.speed.proofs.Laws.{receive_round_is}
use Rattle.speed.proofs.receive_round.Goals as goal

pub returns : goal.returns
returns c = search receive_round_is
