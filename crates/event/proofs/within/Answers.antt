use Rattle.rules.proofs.Choices.{choices}
use Rattle.event.specs.Sizes.{size_by}
use Rattle.event.proofs.within.Goals as goal

pub returns-then-left-n : goal.returns-then-left-n
unfolding size_by
returns-then-left-n c = search choices

pub returns-else-left-n : goal.returns-else-left-n
unfolding size_by
returns-else-left-n c = search choices
