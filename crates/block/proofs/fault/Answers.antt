-- `block::fault` meets its contract: a law for each way out, in the order of the tests. Assumes nothing.
use native.Mathlib.Omega.{arith}
use Rattle.block.proofs.Ways.{ways, used_in}
use Rattle.block.proofs.fault.Goals as goal

pub returns-then-block-ne512 : goal.returns-then-block-ne512
returns-then-block-ne512 c = search ways

pub returns-then-number-k : goal.returns-then-number-k
returns-then-number-k c = search ways

pub returns-then-word-check : goal.returns-then-word-check
returns-then-word-check c = search ways

pub returns-then-used_fault : goal.returns-then-used_fault
returns-then-used_fault c = search ways

pub overflow_add-used : goal.overflow_add-used
overflow_add-used c = omega (arith, (used_in _ _ _ c.used_fault.ensures c.if-used_fault.false).1)

pub overflow_sub-used : goal.overflow_sub-used
overflow_sub-used c = (used_in _ _ _ c.used_fault.ensures c.if-used_fault.false).1

pub returns-then-not-all_zero : goal.returns-then-not-all_zero
returns-then-not-all_zero c = search ways

pub returns : goal.returns
returns c = search ways
