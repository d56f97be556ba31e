-- `fields::number` meets its contract. Assumes nothing.
use Rattle.fields.proofs.Laws.{number_is}
use Rattle.fields.proofs.number.Goals as goal

pub returns : goal.returns
returns c = search number_is
