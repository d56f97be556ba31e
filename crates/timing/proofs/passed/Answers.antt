use native.Mathlib.Omega.{arith}
use Rattle.rules.proofs.Choices.{choices}
use Rattle.timing.specs.Timing.{passed}
use Rattle.timing.proofs.passed.Goals as goal

pub returns-then-number-eq-DONE : goal.returns-then-number-eq-DONE
unfolding passed
returns-then-number-eq-DONE c = (search choices, omega arith)

pub returns-else-number-eq-DONE : goal.returns-else-number-eq-DONE
unfolding passed
returns-else-number-eq-DONE c = (search choices, omega arith)
