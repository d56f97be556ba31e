-- `poking::clear` meets its contract. Assumes nothing.
use Rattle.commands.specs.Commands.{zeros}
use Rattle.poking.proofs.clear.Goals as goal

pub returns : goal.returns
unfolding zeros
returns c = c.fill.ensures.after (λ y e. e)
