use Rattle.memory.proofs.Laws.{store_out}
use Rattle.pair_words.proofs.Laws.{numbers_none, numbers_more}
use Rattle.pair_words.proofs.+every_other.Goals as goal

pub returns-then-n-eq0 : goal.returns-then-n-eq0
returns-then-n-eq0 t c = search numbers_none

pub returns-then-out-at : goal.returns-then-out-at
returns-then-out-at t c = search store_out

pub returns : goal.returns
returns t c = search numbers_more
