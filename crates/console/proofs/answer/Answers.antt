-- `console::answer` meets its contract. Assumes nothing.
use Rattle.console.proofs.Laws.{answer_silent, answer_called}
use Rattle.console.proofs.answer.Goals as goal

pub returns-then-silent : goal.returns-then-silent
returns-then-silent c = search answer_silent

pub returns : goal.returns
returns c = search answer_called
