-- `queries::state` meets its contract. Assumes nothing.
use Rattle.queries.proofs.Laws.{state_says_lem}
use Rattle.queries.proofs.state.Goals as goal

pub returns : goal.returns
returns c = state_says_lem _ _ _ _ c.engines.ensures
