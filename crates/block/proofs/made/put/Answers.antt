-- `block::made::put` meets its contract. Assumes nothing.
use Rattle.memory.proofs.Laws.{store_out}
use Rattle.block.proofs.Blocks.{part_long_enough, put_short, put_whole}
use Rattle.block.proofs.made.put.Goals as goal

pub returns-then-room-at : goal.returns-then-room-at
returns-then-room-at c = search store_out

pub returns-then-room-at-lt508 : goal.returns-then-room-at-lt508
returns-then-room-at-lt508 c = search put_short

pub check-check-requires : goal.check-check-requires
check-check-requires c = search part_long_enough

pub returns : goal.returns
returns c = search put_whole
