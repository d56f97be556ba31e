-- `script::with_one` meets its contract. Assumes nothing.
use Rattle.script.specs.Calls.{with_one}
use Rattle.words.proofs.Laws.{named, not_named}
use Rattle.script.proofs.CallLaws.{given_one}
use Rattle.script.proofs.with_one.Goals as goal

pub returns-then-is : goal.returns-then-is
unfolding with_one
returns-then-is c = search (named, not_named, given_one) depth 9

pub returns-then-is-2 : goal.returns-then-is-2
unfolding with_one
returns-then-is-2 c = search (named, not_named, given_one) depth 9

pub returns-then-is-3 : goal.returns-then-is-3
unfolding with_one
returns-then-is-3 c = search (named, not_named, given_one) depth 9

pub returns-then-is-4 : goal.returns-then-is-4
unfolding with_one
returns-then-is-4 c = search (named, not_named, given_one) depth 9

pub returns-then-is-5 : goal.returns-then-is-5
unfolding with_one
returns-then-is-5 c = search (named, not_named, given_one) depth 9

pub returns-then-is-6 : goal.returns-then-is-6
unfolding with_one
returns-then-is-6 c = search (named, not_named, given_one) depth 9

pub returns : goal.returns
unfolding with_one
returns c = search (named, not_named) depth 9
