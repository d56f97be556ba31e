use Rattle.stream.proofs.Laws.{count_least, fault_here}
use Rattle.stream.proofs.fault_at.Goals as goal

pub overflow_sub-blocks : goal.overflow_sub-blocks
overflow_sub-blocks c =
    let e = c.requires in
    rw e (count_least _)

pub returns : goal.returns
returns c = search fault_here
