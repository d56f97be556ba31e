-- `asking::said` meets its contract. Assumes nothing.
use Rattle.asking.proofs.Laws.{read_said, line_said, show_said, ring_said, peek_said, check_said, state_said, counters_said, error_said}
use Rattle.asking.proofs.said.Goals as goal

pub returns-in-Read : goal.returns-in-Read
returns-in-Read c = search read_said

pub returns-in-Line : goal.returns-in-Line
returns-in-Line c = search line_said

pub returns-in-Show : goal.returns-in-Show
returns-in-Show c = search show_said

pub returns-in-Ring : goal.returns-in-Ring
returns-in-Ring c = search ring_said

pub returns-in-Peek : goal.returns-in-Peek
returns-in-Peek c = search peek_said

pub returns-in-Check : goal.returns-in-Check
returns-in-Check c = search check_said

pub returns-in-State : goal.returns-in-State
returns-in-State c = search state_said

pub returns-in-Counters : goal.returns-in-Counters
returns-in-Counters c = search counters_said

pub returns-in-Error : goal.returns-in-Error
returns-in-Error c = search error_said
