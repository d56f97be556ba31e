-- `fields::pairs` meets its contract. The loop's invariant: writing what is left gives what is asked. Assumes nothing.
use native.Mathlib.Omega.{arith}
use mathlib.Core.Path.{refl}
use Rattle.text.proofs.Laws.{put_within}
use Rattle.fields.proofs.Laws.{each_turn, each_end}
use Rattle.fields.proofs.pairs.Goals as goal

pub loop-b-init : goal.loop-b-init
loop-b-init c = (refl, (omega arith, (refl, omega arith)))

pub loop-b-preserved : goal.loop-b-preserved
loop-b-preserved c = (search each_turn, (omega arith, (omega arith, search put_within)))

pub returns : goal.returns
returns c = search each_end
