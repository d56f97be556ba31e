-- `script::alone` meets its contract. Assumes nothing.
use Rattle.words.proofs.Laws.{named, not_named}
use Rattle.script.specs.Calls.{alone}
use Rattle.script.proofs.alone.Goals as goal

pub returns-then-is : goal.returns-then-is
unfolding alone
returns-then-is c = search (named, not_named) depth 13

pub returns-then-is-2 : goal.returns-then-is-2
unfolding alone
returns-then-is-2 c = search (named, not_named) depth 13

pub returns-then-is-3 : goal.returns-then-is-3
unfolding alone
returns-then-is-3 c = search (named, not_named) depth 13

pub returns-then-is-4 : goal.returns-then-is-4
unfolding alone
returns-then-is-4 c = search (named, not_named) depth 13

pub returns-then-is-5 : goal.returns-then-is-5
unfolding alone
returns-then-is-5 c = search (named, not_named) depth 13

pub returns : goal.returns
unfolding alone
returns c = search (named, not_named) depth 13
