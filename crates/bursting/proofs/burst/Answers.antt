-- `bursting::burst` meets its contract. Assumes nothing.
use borrow.Author.Rules.{rules}
use mathlib.Core.Path.{refl}
use Rattle.commands.proofs.Laws.{within_long}
use Rattle.bursting.proofs.Laws.{burst_made}
use Rattle.bursting.proofs.burst.Goals as goal

pub slice_bounds-call-end : goal.slice_bounds-call-end
slice_bounds-call-end c = search (rules, within_long)

pub slice_bounds-call-end-2 : goal.slice_bounds-call-end-2
slice_bounds-call-end-2 c = search (rules, within_long)

pub returns : goal.returns
returns c =
    let p = c.part-store in
    let e = c.args in
    burst_made _ _ _ _ c.within-p.result c.rest.ensures c.rest-words.ensures c.within-p.ensures _ c.rest-behind.ensures
    _ _ _ _ e.room _ _ _ _ _ _ _ _ _ refl c.first.ensures c.decode-n.ensures p.ensures c.numbers-starts.ensures.0 c.rest-2.ensures c.numbers-lengths.ensures.0 c.call.ensures
