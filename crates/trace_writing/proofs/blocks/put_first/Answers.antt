-- `trace_writing::blocks::put_first` meets its contract. Assumes nothing.
use Rattle.trace_writing.proofs.Putting.{first_put}
use Rattle.trace_writing.proofs.blocks.put_first.Goals as goal

pub returns : goal.returns
returns c =
    first_put _ _ _ _ _ _ _ _ _ _ _ c.blank-used.ensures c.header-header.ensures c.part-kept.ensures c.store.ensures
    c.store-2.ensures
    c.part.ensures
    c.put.ensures
