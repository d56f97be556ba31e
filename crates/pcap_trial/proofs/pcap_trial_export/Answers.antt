use Rattle.std.proofs.Common.{List, ℕ, ap, ◌∙◌}
use Rattle.memory.specs.Memory.{store}
use Rattle.pcap_trial.proofs.Laws.{export_left}
use Rattle.pcap_trial.proofs.pcap_trial_export.Goals as goal

pub returns : goal.returns
returns c = export_left _ _ _ _ _ _ c.export.ensures (c.put.ensures ∙ ap (λ (l : List ℕ). store c.args.found.now 0 l) c.exported_numbers-numbers.ensures)
