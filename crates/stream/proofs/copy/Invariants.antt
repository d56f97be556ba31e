use Rattle.stream.proofs.Laws.{Copying}
use Rattle.stream.proofs.copy.Given as goal

abbrev pub invariant-loop-k : goal.invariant-loop-k
invariant-loop-k l = Copying l.trace l.initial.room l.blocks l.room l.bytes l.k
