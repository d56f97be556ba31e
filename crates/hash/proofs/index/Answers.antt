-- `hash::index` meets its contract. Assumes nothing.
use Rattle.hash.proofs.Laws.{index_is}
use Rattle.hash.proofs.index.Goals as goal

pub returns : goal.returns
returns c = search index_is
