use Rattle.console.proofs.Laws.{asks_called, acts_called}
use Rattle.console.proofs.make.Goals as goal

pub returns-in-Asks : goal.returns-in-Asks
returns-in-Asks c = search (asks_called, acts_called)

pub returns-in-Acts : goal.returns-in-Acts
returns-in-Acts c = search (asks_called, acts_called)
