-- `bursting::call` meets its contract. Assumes nothing.
use borrow.Author.Rules.{rules}
use mathlib.Core.Path.{refl}
use Rattle.commands.proofs.Laws.{within_fits, within_long, within_seen, within_kept}
use Rattle.bursting.proofs.Laws.{call_made}
use Rattle.bursting.proofs.call.Goals as goal

pub slice_bounds-answers-end : goal.slice_bounds-answers-end
slice_bounds-answers-end c = search (rules, within_long)

pub slice_bounds-burst-end : goal.slice_bounds-burst-end
slice_bounds-burst-end c = search (rules, within_fits)

pub slice_bounds-burst-end-2 : goal.slice_bounds-burst-end-2
slice_bounds-burst-end-2 c = search (rules, within_long)

pub returns : goal.returns
returns c =
    let e = c.args in
    let k = c.within-k in
    let n = c.within-n in
    let h = c.listed-end in
    let seen = within_seen _ _ _ _ refl n.ensures in
    let kept = within_kept _ _ _ _ refl n.ensures in
    let cut = within_seen _ _ _ _ refl k.ensures in
    call_made _ _ _ _ _ _ _ _ _ _ _ _ n.result k.result e.room _ seen kept
    refl cut _ c.burst-a.ensures h.ensures c.next.ensures
