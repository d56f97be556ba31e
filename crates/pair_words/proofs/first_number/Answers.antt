-- `pair_words::first_number` meets its contract. Assumes nothing.
use Rattle.pair_words.proofs.Laws.{first_number_is}
use Rattle.pair_words.proofs.first_number.Goals as goal

pub returns : goal.returns
returns c = search first_number_is
