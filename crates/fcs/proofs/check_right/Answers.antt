-- `fcs::check_right` meets its contract. Assumes nothing.
use mathlib.Core.Path.{ap, ◌∙◌}
use native.Mathlib.Omega.{arith}
use Rattle.std.proofs.Common.{rules}
use Rattle.fcs.specs.CheckSequence.{check_number}
use Rattle.fcs.proofs.FourBytes.{too_short, tested}
use Rattle.fcs.proofs.check_right.Goals as goal

pub returns-in-Some : goal.returns-in-Some
returns-in-Some c =
    let p = c.in-Some.ensures.cases in
    tested c.args.frame.now c.in-Some.sequence.now _ _ (omega (arith, p.2)) (search rules) p.1 c.from_le_bytes.ensures
    (c.check_number.ensures ∙ ap check_number p.0)

pub returns-in-None : goal.returns-in-None
returns-in-None c = too_short _ c.in-None.ensures.cases
