-- `script::call_of` meets its contract. Assumes nothing.
use Rattle.script.proofs.CallLaws.{line_long, line_alone, line_one, line_more}
use Rattle.script.proofs.call_of.Goals as goal

pub returns-then-line-gt4096 : goal.returns-then-line-gt4096
returns-then-line-gt4096 c = search line_long

pub returns-then-not-spaced : goal.returns-then-not-spaced
returns-then-not-spaced c = search line_alone

pub returns-then-not-spaced-2 : goal.returns-then-not-spaced-2
returns-then-not-spaced-2 c = search line_one

pub returns : goal.returns
returns c = search line_more
