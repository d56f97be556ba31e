use Rattle.trace.proofs.Bytes.{size_past, size_frame, size_other}
use Rattle.trace.proofs.scattered.size.Goals as goal

pub returns-then-end-p : goal.returns-then-end-p
returns-then-end-p c = search size_past

pub returns-then-first-eq3 : goal.returns-then-first-eq3
returns-then-first-eq3 c = search size_frame

pub returns : goal.returns
returns c = search size_other
