use Rattle.stream.proofs.Laws.{count_is}
use Rattle.stream.proofs.block_count.Goals as goal

pub returns : goal.returns
returns c = rw (c.max.ensures, c.div_ceil.ensures) (count_is c.args.bytes)
