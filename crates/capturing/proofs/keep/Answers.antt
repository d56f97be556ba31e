use Rattle.capturing.proofs.Keeping.{not_done, already_full, no_room, has_room}
use Rattle.capturing.proofs.keep.Goals as goal

pub returns-then-number-ne0 : goal.returns-then-number-ne0
returns-then-number-ne0 c = search not_done

pub returns-then-before : goal.returns-then-before
returns-then-before c = search already_full

pub returns-in-Some : goal.returns-in-Some
returns-in-Some c =
    has_room _ _ _ _ _ c.if-number-ne0.false c.if-before.false _ _ c.put.ensures.end c.put.ensures.after _ c.in-Some.is

pub returns-in-None : goal.returns-in-None
returns-in-None c = no_room _ _ _ _ _ c.if-number-ne0.false c.if-before.false _ _ c.put.ensures.end c.put.ensures.after c.in-None.is
