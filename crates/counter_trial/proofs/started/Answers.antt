use Rattle.counter_trial.proofs.Laws.{started_is}
use Rattle.counter_trial.proofs.started.Goals as goal

pub returns : goal.returns
returns c = search started_is
