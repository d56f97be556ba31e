-- `queries::read` meets its contract. Assumes nothing.
use Rattle.queries.proofs.Laws.{read_says_lem}
use Rattle.queries.proofs.read.Goals as goal

pub returns : goal.returns
returns c =
    let r = c.read-a in
    let h = c.read in
    read_says_lem _ _ _ _ _ _ r.ensures h.ensures
