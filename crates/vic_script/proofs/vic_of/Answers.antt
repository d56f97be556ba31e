use Rattle.vic_script.specs.VicCalls.{vic_of}
use Rattle.words.proofs.Laws.{named, not_named}
use Rattle.vic_script.proofs.vic_of.Goals as goal

pub returns-then-is : goal.returns-then-is
unfolding vic_of
returns-then-is c = search (named, not_named) depth 9

pub returns-then-is-2 : goal.returns-then-is-2
unfolding vic_of
returns-then-is-2 c = search (named, not_named) depth 9

pub returns : goal.returns
unfolding vic_of
returns c = search (named, not_named) depth 9
