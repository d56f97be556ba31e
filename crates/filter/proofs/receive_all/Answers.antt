use Rattle.filter.proofs.Laws.{receive_all_bit}
use Rattle.filter.proofs.receive_all.Goals as goal

pub returns : goal.returns
returns c = receive_all_bit c.args.control
