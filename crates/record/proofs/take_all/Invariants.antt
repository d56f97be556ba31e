-- Each turn takes a part of the input. Assumes nothing.
use Rattle.record.proofs.take_all.Given as goal

abbrev pub decreases-loop-input : goal.decreases-loop-input
decreases-loop-input g l = l.input.parts
