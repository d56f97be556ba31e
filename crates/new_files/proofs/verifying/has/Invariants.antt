-- Each turn takes some of the bytes that are left. Assumes nothing.
use Rattle.std.proofs.Common.{length}
use Rattle.new_files.proofs.verifying.has.Given as goal

abbrev pub decreases-loop-left : goal.decreases-loop-left
decreases-loop-left g l = length l.left
