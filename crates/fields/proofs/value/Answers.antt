-- `fields::value` meets its contract. Assumes nothing.
use Rattle.text.proofs.Laws.{put_within}
use Rattle.fields.proofs.Laws.{value_is}
use Rattle.fields.proofs.value.Goals as goal

pub pairs-requires : goal.pairs-requires
pairs-requires c = search put_within

pub returns : goal.returns
returns c = search value_is
