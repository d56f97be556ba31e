-- `list_reports::numbers` meets its contract. The loop's invariant: writing what is left gives what is asked. Assumes nothing.
use native.Mathlib.Omega.{arith}
use mathlib.Core.Path.{refl}
use Rattle.text.proofs.Laws.{put_within}
use Rattle.fields.proofs.Laws.{each_turn, each_end}
use Rattle.list_reports.proofs.numbers.Goals as goal

pub loop-n-init : goal.loop-n-init
loop-n-init c = (refl, (omega arith, (refl, omega arith)))

pub loop-n-preserved : goal.loop-n-preserved
loop-n-preserved c =
    let l = c.loop-n in
    let test = c.loop-n-test in
    (each_turn _ _ _ _ _ _ l.n-index _ c.one-end.ensures test.true l.invariant.0, (omega arith, (omega arith, put_within _ _ _ _ _ c.one-end.ensures)))

pub returns : goal.returns
returns c = search each_end
