-- `fcs::close` meets its contract. Assumes nothing.
use mathlib.Core.Path.{◌∙◌}
use native.Mathlib.Omega.{arith}
use Rattle.fcs.proofs.FourBytes.{no_room, written}
use Rattle.fcs.proofs.close.Goals as goal

pub returns-then-saturating_sub-lt4 : goal.returns-then-saturating_sub-lt4
returns-then-saturating_sub-lt4 c = no_room _ _ (omega arith)

pub returns : goal.returns
returns c = written _ _ _ c.check_number-check.result (omega arith) c.check_number-check.ensures (c.copy_from_slice.ensures.after ∙ c.to_le_bytes.ensures)
