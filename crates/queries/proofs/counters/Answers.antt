-- `queries::counters` meets its contract. Assumes nothing.
use Rattle.queries.proofs.Laws.{counters_say_lem}
use Rattle.queries.proofs.counters.Goals as goal

pub returns : goal.returns
returns c = search counters_say_lem
