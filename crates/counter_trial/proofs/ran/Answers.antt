use Rattle.counter_trial.proofs.Laws.{ran_is}
use Rattle.counter_trial.proofs.ran.Goals as goal

pub returns : goal.returns
returns c = search ran_is
