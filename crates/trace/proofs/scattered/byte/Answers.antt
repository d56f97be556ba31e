use Rattle.trace.proofs.Bytes.{byte_past, byte_here}
use Rattle.trace.proofs.scattered.byte.Goals as goal

pub returns-then-trace-p : goal.returns-then-trace-p
returns-then-trace-p c = search byte_past

pub returns : goal.returns
returns c = search byte_here
