use mathlib.Core.Path.{◌∙◌, ap}
use Rattle.memory.specs.Memory.{store}
use Rattle.trace_trial.proofs.Laws.{read_left}
use Rattle.trace_trial.proofs.trace_trial_read.Goals as goal

pub returns : goal.returns
returns c = read_left _ _ _ _ _ _ c.read-read.ensures (c.put.ensures ∙ ap (store c.args.found.now 0) c.summary_numbers.ensures)
