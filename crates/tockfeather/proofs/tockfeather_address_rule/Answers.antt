-- `tockfeather::tockfeather_address_rule` meets its contract. Assumes nothing.
use mathlib.Core.Path.{◌∙◌}
use Rattle.tockfeather.proofs.tockfeather_address_rule.Goals as goal

pub returns : goal.returns
returns c = c.number.ensures ∙ c.apply-reason.ensures
