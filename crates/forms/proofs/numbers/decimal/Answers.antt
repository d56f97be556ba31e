use Rattle.forms.proofs.NumberLaws.{decimal_wrong, decimal_over, decimal_is}
use Rattle.forms.proofs.numbers.decimal.Goals as goal

pub returns-in_err-n : goal.returns-in_err-n
returns-in_err-n c = search (decimal_wrong, c.in_err-n.was)

pub returns-then-most-n : goal.returns-then-most-n
returns-then-most-n c = search (decimal_over, c.in_ok-n.was)

pub returns : goal.returns
returns c = search (decimal_is, c.in_ok-n.was)
