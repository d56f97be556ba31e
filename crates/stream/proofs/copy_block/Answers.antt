use Rattle.stream.proofs.Laws.{block_copied}
use Rattle.stream.proofs.copy_block.Goals as goal

pub returns : goal.returns
returns c =
    block_copied _ _ _ _ _ _ _ _ _ c.used_data-used.ensures c.behind_header.ensures c.header_left.ensures c.part.ensures c.store.ensures
