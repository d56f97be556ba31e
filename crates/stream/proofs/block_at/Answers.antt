use Rattle.stream.proofs.Laws.{block_past, block_here}
use Rattle.stream.proofs.block_at.Goals as goal

pub returns-then-trace-k : goal.returns-then-trace-k
returns-then-trace-k c = search block_past

pub returns : goal.returns
returns c = search block_here
