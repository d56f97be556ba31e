-- `trace_writing::blocks::put_all` meets its contract. Assumes nothing.
use Rattle.trace_writing.proofs.Putting.{all_put}
use Rattle.trace_writing.proofs.blocks.put_all.Goals as goal

pub returns : goal.returns
returns c = search all_put
