use borrow.Author.Tests.{ne_eqb, lt-ltb, le-ltb}
use Rattle.rules.proofs.Choices.{choices}
use Rattle.event.specs.Sizes.{size_by}
use Rattle.event.proofs.size.Goals as goal

pub returns-then-left-eq0 : goal.returns-then-left-eq0
unfolding size_by
returns-then-left-eq0 c = search choices

pub returns-in-1 : goal.returns-in-1
unfolding size_by
returns-in-1 c = search choices

pub returns-in-2 : goal.returns-in-2
unfolding size_by
returns-in-2 c = rw (c.in-2.is, ne_eqb _ 0 c.if-left-eq0.false) c.within-in-2.ensures

pub returns-then-left-lt5 : goal.returns-then-left-lt5
unfolding size_by
returns-then-left-lt5 c = rw (c.in-3.is, ne_eqb _ 0 c.if-left-eq0.false, lt-ltb _ 5 c.if-left-lt5.true)

pub returns-else-left-lt5 : goal.returns-else-left-lt5
unfolding size_by
returns-else-left-lt5 c =
    rw (c.in-3.is, ne_eqb _ 0 c.if-left-eq0.false, le-ltb _ 5 c.if-left-lt5.false) c.within-else-left-lt5.ensures

pub returns-in-4 : goal.returns-in-4
unfolding size_by
returns-in-4 c = rw (c.in-4.is, ne_eqb _ 0 c.if-left-eq0.false)

pub returns-in_default : goal.returns-in_default
unfolding size_by
returns-in_default c = search choices
