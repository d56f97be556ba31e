-- `script::with_more` meets its contract. Assumes nothing.
use Rattle.script.proofs.CallLaws.{more_burst, more_none, more_two}
use Rattle.script.proofs.with_more.Goals as goal

pub returns-then-is : goal.returns-then-is
returns-then-is c = search more_burst

pub returns-then-spaced : goal.returns-then-spaced
returns-then-spaced c = search more_none

pub returns : goal.returns
returns c = search more_two
