-- `fields::pair` meets its contract. Assumes nothing.
use Rattle.fields.proofs.Laws.{pair_is}
use Rattle.fields.proofs.pair.Goals as goal

pub returns : goal.returns
returns c = search pair_is
