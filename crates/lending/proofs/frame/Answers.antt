-- `lending::frame` meets its contract. Assumes nothing.
use borrow.Author.Rules.{rules}
use mathlib.Core.Path.{refl}
use Rattle.commands.proofs.Laws.{within_fits, within_long, within_seen, within_kept}
use Rattle.lending.proofs.Laws.{frame_made}
use Rattle.lending.proofs.frame.Goals as goal

pub slice_bounds-receive-end : goal.slice_bounds-receive-end
slice_bounds-receive-end c = search (rules, within_fits)

pub slice_bounds-receive-end-2 : goal.slice_bounds-receive-end-2
slice_bounds-receive-end-2 c = search (rules, within_long)

pub returns : goal.returns
returns c =
    let k = c.decode-n in
    let n = c.within-k in
    let p = c.part in
    let a = c.answered in
    let seen = within_seen _ _ _ _ refl n.ensures in
    let kept = within_kept _ _ _ _ refl n.ensures in
    frame_made _ _ _ _ _ _ n.result seen kept
    _ _ _ _ _ _ _ refl k.ensures p.ensures c.receive-a.ensures a.ensures.0 a.ensures.1
