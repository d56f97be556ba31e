use Rattle.vic_script.specs.VicCalls.{alone}
use Rattle.words.proofs.Laws.{named, not_named}
use Rattle.vic_script.proofs.alone.Goals as goal

pub returns-then-is : goal.returns-then-is
unfolding alone
returns-then-is c = search (named, not_named) depth 9

pub returns-then-is-2 : goal.returns-then-is-2
unfolding alone
returns-then-is-2 c = search (named, not_named) depth 9

pub returns : goal.returns
unfolding alone
returns c = search (named, not_named) depth 9
