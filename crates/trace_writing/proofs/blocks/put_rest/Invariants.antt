-- `trace_writing::blocks::put_rest` meets its contract. The loop's invariant: the blocks up to the next one are put. Assumes nothing.
use Rattle.trace_writing.proofs.Putting.{Putting}
use Rattle.trace_writing.proofs.blocks.put_rest.Given as goal

abbrev pub invariant-loop-k : goal.invariant-loop-k
invariant-loop-k l = Putting l.events l.initial.room l.blocks l.room l.k
