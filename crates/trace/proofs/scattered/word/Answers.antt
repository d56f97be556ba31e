use Rattle.trace.proofs.Bytes.{word_past, word_inside, word_here}
use Rattle.trace.proofs.scattered.word.Goals as goal

pub returns-then-trace-p : goal.returns-then-trace-p
returns-then-trace-p c = search word_past

pub returns-then-p-le500 : goal.returns-then-p-le500
returns-then-p-le500 c = search word_inside

pub returns : goal.returns
returns c = search word_here
