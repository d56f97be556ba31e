use Rattle.board.proofs.Laws.{answer_calls, answer_other}
use Rattle.board.proofs.answer.Goals as goal

pub returns-in-Some : goal.returns-in-Some
returns-in-Some c = search answer_calls

pub returns-in-None : goal.returns-in-None
returns-in-None c = search answer_other
