-- `outgoing::send` meets its contract. Assumes nothing.
use borrow.Author.Rules.{rules}
use mathlib.Core.Path.{refl}
use Rattle.commands.proofs.Laws.{within_fits, within_long, within_seen, within_kept}
use Rattle.commands.specs.Commands.{zeros}
use Rattle.outgoing.proofs.Laws.{send_made}
use Rattle.outgoing.proofs.send.Goals as goal

pub slice_bounds-out-end : goal.slice_bounds-out-end
slice_bounds-out-end c = search (rules, within_long)

pub slice_bounds-send-end : goal.slice_bounds-send-end
slice_bounds-send-end c = search (rules, within_fits)

pub slice_bounds-send-end-2 : goal.slice_bounds-send-end-2
slice_bounds-send-end-2 c = search (rules, within_long)

pub returns : goal.returns
unfolding zeros
returns c =
    let e = c.args in
    let k = c.within-k in
    let n = c.within-n in
    let s = c.send-s in
    let p = c.part in
    let h = c.shown-end in
    let seen = within_seen _ _ _ _ refl n.ensures in
    let kept = within_kept _ _ _ _ refl n.ensures in
    let cut = within_seen _ _ _ _ refl k.ensures in
    send_made _ _ _ _ _ _ _ _ _ _ n.result k.result e.room _ seen kept
    refl cut _ s.ensures p.ensures h.ensures c.next.ensures
