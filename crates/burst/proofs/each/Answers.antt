-- `burst::each` meets its contract. Assumes nothing.
use Rattle.std.proofs.Common.{refl, sym, ◌∙◌}
use Rattle.std.proofs.lemmas.Slice.Zip.{Zip-more, either_empty_from_Zip}
use Rattle.burst.proofs.Turns.{lists_turn, lists_end}
use Rattle.burst.proofs.each.Goals as goal

pub loop-i-preserved : goal.loop-i-preserved
loop-i-preserved c =
    let l = c.loop-i in
    let o = c.turn-last in
    let s = rw c.in-Some.is at c.next.ensures.steps in
    let z = Zip-more l.i-iterator.iter c.next.new.self.iter _ (c.in-Some.start, c.in-Some.length) refl s.0 in
    let t = lists_turn _ _ _ _ _ _ _ _ _ _ _ z.0 z.1 s.2 (rw s.1 at o.ensures) in
    (o.auto.memory ∙ l.invariant.0, (o.auto.answers ∙ l.invariant.1.0, t ∙ l.invariant.1.1))

pub returns : goal.returns
returns c =
    let s = rw c.in-None.is at c.next.ensures.steps in
    sym (lists_end _ _ _ _ _ (either_empty_from_Zip c.loop-i.i-iterator.iter c.next.new.self.iter _ refl s.0)) ∙ c.loop-i.invariant.1.1
