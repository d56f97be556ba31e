-- `console::counted` meets its contract. Assumes nothing.
use Rattle.console.proofs.Laws.{counted_is}
use Rattle.console.proofs.counted.Goals as goal

pub returns : goal.returns
returns c = counted_is c.args.console _ c.wrapping_add_u64.ensures.value
