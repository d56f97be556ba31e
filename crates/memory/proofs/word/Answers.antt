use Rattle.memory.proofs.Laws.{word_out, word_read}
use Rattle.memory.proofs.word.Goals as goal

pub returns-then-m-at : goal.returns-then-m-at
returns-then-m-at c = search word_out

pub returns : goal.returns
returns c = search word_read
