-- `half_bytes::bytes_by` meets its contract. The loop's invariant: the bytes left, put in, give the register that all of them give.
-- Assumes nothing.
use mathlib.Core.Path.{◌≡◌}
use lib.ListN.{drop}
use Rattle.half_bytes.specs.Clocks.{bytes_in, feedback802}
use Rattle.half_bytes.proofs.bytes_by.Given as goal

abbrev pub invariant-loop-b : goal.invariant-loop-b
invariant-loop-b l = bytes_in feedback802 l.r (drop l.b-index l.bytes) ≡ bytes_in feedback802 l.from l.bytes
