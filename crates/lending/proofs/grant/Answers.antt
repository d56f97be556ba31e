-- `lending::grant` meets its contract. Assumes nothing.
use borrow.Author.Rules.{rules}
use mathlib.Core.Path.{refl}
use Rattle.commands.proofs.Laws.{within_fits, within_long, within_seen, within_kept}
use Rattle.lending.proofs.Laws.{grant_made}
use Rattle.lending.proofs.grant.Goals as goal

pub slice_bounds-grant-end : goal.slice_bounds-grant-end
slice_bounds-grant-end c = search (rules, within_fits)

pub slice_bounds-grant-end-2 : goal.slice_bounds-grant-end-2
slice_bounds-grant-end-2 c = search (rules, within_long)

pub returns : goal.returns
returns c =
    let n = c.within-n in
    let g = c.grant-a in
    let a = c.answered in
    let seen = within_seen _ _ _ _ refl n.ensures in
    let kept = within_kept _ _ _ _ refl n.ensures in
    grant_made _ _ _ _ _ _ n.result seen kept _ _ _ g.ensures a.ensures.0 a.ensures.1
