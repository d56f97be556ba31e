use Rattle.rules.proofs.Choices.{choices}
use Rattle.event.specs.Walk.{ending_by}
use Rattle.event.proofs.ends.Goals as goal

pub returns-then-left-eq0 : goal.returns-then-left-eq0
unfolding ending_by
returns-then-left-eq0 c = search choices

pub returns-then-begins : goal.returns-then-begins
unfolding ending_by
returns-then-begins c = search choices

pub returns-else-begins : goal.returns-else-begins
unfolding ending_by
returns-else-begins c = search choices
