use Rattle.vic_script.proofs.Laws.{line_alone, line_of_two, line_of_more}
use Rattle.vic_script.proofs.vic_call_of.Goals as goal

pub returns-then-not-spaced : goal.returns-then-not-spaced
returns-then-not-spaced c = search line_alone

pub returns-then-not-spaced-2 : goal.returns-then-not-spaced-2
returns-then-not-spaced-2 c = search line_of_two

pub returns : goal.returns
returns c = search line_of_more
