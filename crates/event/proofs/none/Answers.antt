use Rattle.rules.proofs.Choices.{choices}
use Rattle.event.specs.Sizes.{none_by}
use Rattle.event.proofs.none.Goals as goal

pub returns-then-begins : goal.returns-then-begins
unfolding none_by
returns-then-begins c = search choices

pub returns-else-begins : goal.returns-else-begins
unfolding none_by
returns-else-begins c = search choices
