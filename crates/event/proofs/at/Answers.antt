use Rattle.event.proofs.Places.{at_ways, at_frame}
use Rattle.event.proofs.at.Goals as goal

pub returns-then-list-place : goal.returns-then-list-place
returns-then-list-place c = search at_ways

pub returns-then-n-eq0 : goal.returns-then-n-eq0
returns-then-n-eq0 c = search at_ways

pub returns-in-1 : goal.returns-in-1
returns-in-1 c = search at_ways

pub returns-in-2 : goal.returns-in-2
returns-in-2 c = search at_ways

pub returns-in-3 : goal.returns-in-3
returns-in-3 c =
    at_frame _ _ _ _ _ c.if-list-place.false c.byte-first.ensures c.word-four.ensures c.size-n.ensures c.if-n-eq0.false c.in-3.is

pub returns-in_default : goal.returns-in_default
returns-in_default c = search at_ways
