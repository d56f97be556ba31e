-- `queries::show` meets its contract. Assumes nothing.
use Rattle.queries.proofs.Laws.{show_says_lem}
use Rattle.queries.proofs.show.Goals as goal

pub returns : goal.returns
returns c =
    let n = c.reading_number-number in
    let r = c.reading in
    let h = c.shown in
    show_says_lem _ _ _ _ _ _ _ _ n.ensures r.ensures h.ensures
