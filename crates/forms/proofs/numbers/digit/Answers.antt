-- `forms::numbers::digit` meets its contract. Assumes nothing.
use Rattle.forms.proofs.NumberLaws.{digit_told}
use Rattle.forms.proofs.numbers.digit.Goals as goal

pub returns-clause-value : goal.returns-clause-value
returns-clause-value c = search digit_told
