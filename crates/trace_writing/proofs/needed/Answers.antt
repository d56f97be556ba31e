-- `trace_writing::needed` meets its contract. Assumes nothing.
use native.Mathlib.Omega.{arith}
use Rattle.trace_writing.specs.Made.{blocks_for}
use Rattle.trace_writing.proofs.needed.Goals as goal

pub returns : goal.returns
unfolding blocks_for
returns c = omega arith
