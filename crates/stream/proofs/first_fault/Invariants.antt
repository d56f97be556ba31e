use Rattle.stream.proofs.Laws.{Testing}
use Rattle.stream.proofs.first_fault.Given as goal

abbrev pub invariant-loop-k : goal.invariant-loop-k
invariant-loop-k l = Testing l.trace l.blocks l.k
