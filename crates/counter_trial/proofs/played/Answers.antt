use Rattle.counter_trial.proofs.Laws.{played_is}
use Rattle.counter_trial.proofs.played.Goals as goal

pub returns : goal.returns
returns c = search played_is
