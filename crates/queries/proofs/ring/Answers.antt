-- `queries::ring` meets its contract. Assumes nothing.
use Rattle.queries.proofs.Laws.{ring_says_lem}
use Rattle.queries.proofs.ring.Goals as goal

pub returns : goal.returns
returns c = search ring_says_lem
