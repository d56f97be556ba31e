-- `peeking::check` meets its contract. Assumes nothing.
use Rattle.peeking.proofs.Laws.{check_says_lem}
use Rattle.peeking.proofs.check.Goals as goal

pub returns : goal.returns
returns c =
    let p = c.part-window in
    let n = c.check_number in
    let h = c.valued in
    check_says_lem _ _ _ _ _ _ _ p.ensures n.ensures h.ensures
