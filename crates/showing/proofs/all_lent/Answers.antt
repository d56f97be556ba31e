-- `showing::all_lent` meets its contract. Assumes nothing.
use Rattle.std.proofs.Common.{refl}
use Rattle.commands.proofs.Laws.{within_seen, within_kept}
use Rattle.showing.proofs.Laws.{shown_over_lem}
use Rattle.showing.proofs.all_lent.Goals as goal

pub returns : goal.returns
returns g c =
    let seen = within_seen _ _ _ _ refl c.within-k.ensures in
    let kept = within_kept _ _ _ _ refl c.within-k.ensures in
    shown_over_lem c.args.begun c.all.result _ _ _ _ _ _ c.within-k.result seen kept c.all.ensures
