use mathlib.Core.Path.{ap}
use mathlib.Core.Bool.{not}
use native.Mathlib.Omega.{arith}
use Rattle.wire.proofs.Laws.{none_counted, none_put, all_counted, all_put}
use Rattle.wire.proofs.put_wire.Goals as goal

pub returns-then-not-wire_fits : goal.returns-then-not-wire_fits
returns-then-not-wire_fits c =
    let w = c.wire_fits in
    (none_counted _ _ _ w.ensures (ap not c.if-not-wire_fits.true), none_put _ _ _ w.ensures (ap not c.if-not-wire_fits.true))

pub returns : goal.returns
returns c =
    let w = c.wire_fits in
    let h = ap not c.if-not-wire_fits.false in (
      all_counted _ _ _ _ w.ensures h (omega (arith, c.max-k.ensures)),
      all_put _ _ _ _ _ _ _ w.ensures h c.store.ensures c.pad.ensures (omega (arith, c.max-k.ensures)) c.close.ensures.1,
    )
