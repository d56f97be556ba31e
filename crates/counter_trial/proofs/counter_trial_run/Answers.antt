use Rattle.counter_trial.proofs.Laws.{run_left_lem}
use Rattle.counter_trial.proofs.counter_trial_run.Goals as goal

pub returns : goal.returns
returns c = search run_left_lem
