-- `queries::line` meets its contract. Assumes nothing.
use Rattle.queries.proofs.Laws.{line_says_lem}
use Rattle.queries.proofs.line.Goals as goal

pub returns : goal.returns
returns c = search line_says_lem
