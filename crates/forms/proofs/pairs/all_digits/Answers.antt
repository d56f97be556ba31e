-- `forms::pairs::all_digits` meets its contract. The loop's invariant: what is left decides. Assumes nothing.
use mathlib.Core.Path.{refl}
use Rattle.forms.proofs.PairLaws.{digits_more, digits_stop, digits_end}
use Rattle.forms.proofs.pairs.all_digits.Goals as goal

pub loop-c-init : goal.loop-c-init
loop-c-init c = refl

pub returns-then-is_none : goal.returns-then-is_none
returns-then-is_none c = search digits_stop

pub loop-c-preserved : goal.loop-c-preserved
loop-c-preserved c = search digits_more

pub returns : goal.returns
returns c = search digits_end
