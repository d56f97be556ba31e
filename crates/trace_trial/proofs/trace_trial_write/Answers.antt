use mathlib.Core.Path.{◌∙◌, ap}
use Rattle.memory.specs.Memory.{store}
use Rattle.trace_trial.proofs.Laws.{write_left}
use Rattle.trace_trial.proofs.trace_trial_write.Goals as goal

pub returns : goal.returns
returns c =
    write_left _ _ _ _ _ _ _ _ c.write-written.ensures (c.put.ensures ∙ ap (store c.args.found.now 0) c.written_numbers.ensures)
