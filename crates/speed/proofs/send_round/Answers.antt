use Rattle.speed.proofs.Laws.{send_round_is}
use Rattle.speed.proofs.send_round.Goals as goal

pub returns : goal.returns
returns c = search send_round_is
