use Rattle.event.proofs.Laws.{size_from, size_other_from, none_from}
use Rattle.event.proofs.size_at.Goals as goal

pub returns-then-list-place : goal.returns-then-list-place
returns-then-list-place c = search none_from

pub returns-then-first-eq3 : goal.returns-then-first-eq3
returns-then-first-eq3 c = search size_from

pub returns : goal.returns
returns c = search size_other_from
