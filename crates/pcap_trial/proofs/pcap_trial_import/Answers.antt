use Rattle.std.proofs.Common.{List, ℕ, ap, ◌∙◌}
use Rattle.memory.specs.Memory.{store}
use Rattle.pcap_trial.proofs.Laws.{import_left}
use Rattle.pcap_trial.proofs.pcap_trial_import.Goals as goal

pub returns : goal.returns
returns c = import_left _ _ _ _ _ _ _ _ c.import.ensures (c.put.ensures ∙ ap (λ (l : List ℕ). store c.args.found.now 0 l) c.imported_numbers-numbers.ensures)
