-- `block::made::clear` meets its contract. Assumes nothing.
use Rattle.std.proofs.Common.{rules}
use Rattle.memory.proofs.Laws.{store_out}
use Rattle.block.proofs.Clearing.{cleared}
use Rattle.block.proofs.made.clear.Goals as goal

pub returns-then-room-at : goal.returns-then-room-at
returns-then-room-at c = search store_out

pub returns : goal.returns
returns c = cleared c.args.room.now c.args.at c.args.n c.min.result c.if-room-at.false c.fill.new.self c.min.ensures (search rules)
