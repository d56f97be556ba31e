use Rattle.counter_trial.proofs.Laws.{burst_left_lem}
use Rattle.counter_trial.proofs.counter_trial_burst.Goals as goal

pub returns : goal.returns
returns c = search burst_left_lem
