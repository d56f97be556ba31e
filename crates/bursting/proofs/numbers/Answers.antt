-- `bursting::numbers` meets its contract. Assumes nothing.
use borrow.Author.Rules.{rules}
use Rattle.bursting.proofs.Laws.{numbers_are}
use Rattle.bursting.proofs.numbers.Goals as goal

pub returns : goal.returns
returns c = (search numbers_are, search rules)
