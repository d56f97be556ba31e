-- `words::first` meets its contract. Assumes nothing.
use Rattle.words.proofs.Laws.{first_is, first_all}
use Rattle.words.proofs.first.Goals as goal

pub returns-in-Some : goal.returns-in-Some
returns-in-Some c = search first_is

pub returns-in-None : goal.returns-in-None
returns-in-None c = search first_all
