use Rattle.vic_script.specs.VicCalls.{with_words}
use Rattle.words.proofs.Laws.{named, not_named}
use Rattle.vic_script.proofs.Laws.{given_one}
use Rattle.vic_script.proofs.with_words.Goals as goal

pub returns-then-is : goal.returns-then-is
unfolding with_words
returns-then-is c = search (named, not_named, given_one) depth 9

pub returns-then-is-2 : goal.returns-then-is-2
unfolding with_words
returns-then-is-2 c = search (named, not_named, given_one) depth 9

pub returns-then-is-3 : goal.returns-then-is-3
unfolding with_words
returns-then-is-3 c = search (named, not_named) depth 9

pub returns : goal.returns
unfolding with_words
returns c = search (named, not_named) depth 9
