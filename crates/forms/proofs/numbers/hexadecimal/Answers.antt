-- `forms::numbers::hexadecimal` meets its contract. Assumes nothing.
use borrow.Author.Rules.{rules}
use Rattle.forms.specs.Numbers.{hexadecimal}
use Rattle.forms.proofs.numbers.hexadecimal.Goals as goal

pub returns : goal.returns
unfolding hexadecimal
returns c = search rules
