use Rattle.appending.proofs.Laws.{none_behind, no_head, no_body, both_put}
use Rattle.appending.proofs.put.Goals as goal

pub returns-then-list-at : goal.returns-then-list-at
returns-then-list-at c = search none_behind

pub returns-then-left-head : goal.returns-then-left-head
returns-then-left-head c = search no_head

pub returns-then-left-head-2 : goal.returns-then-left-head-2
returns-then-left-head-2 c = search no_body

pub returns : goal.returns
returns c = search both_put
