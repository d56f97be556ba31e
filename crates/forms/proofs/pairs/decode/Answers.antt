-- `forms::pairs::decode` meets its contract. The loop's invariant: storing what is left gives what is asked. Assumes nothing.
use native.Mathlib.Omega.{arith}
use mathlib.Core.Path.{refl}
use Rattle.forms.proofs.PairLaws.{pairs_more, pairs_end}
use Rattle.forms.proofs.pairs.decode.Goals as goal

pub loop-n-init : goal.loop-n-init
loop-n-init c = (refl, refl)

pub loop-n-preserved : goal.loop-n-preserved
loop-n-preserved c = (omega arith, search pairs_more)

pub returns : goal.returns
returns c = search pairs_end
