use Rattle.trace_trial.proofs.Laws.{replay_left}
use Rattle.trace_trial.proofs.trace_trial_replay.Goals as goal

pub returns : goal.returns
returns c = replay_left _ _ _ _ _ _ _ _ _ _ _ _ _ c.replay-replayed.ensures c.replayed_numbers.ensures c.put.ensures
