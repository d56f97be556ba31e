-- `lending::answered` meets its contract. Assumes nothing.
use Rattle.lending.proofs.Laws.{answered_is}
use Rattle.lending.proofs.answered.Goals as goal

pub returns : goal.returns
returns c =
    let e = c.args in
    answered_is e.console _ _ _ _ _ _ _ c.next.ensures (rw c.from.ensures at c.numbered-end.ensures)
