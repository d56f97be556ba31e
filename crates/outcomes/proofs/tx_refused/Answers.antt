use Rattle.outcomes.proofs.Laws.{tx_refused_ways}
use Rattle.outcomes.proofs.tx_refused.Goals as goal

pub returns-in-7 : goal.returns-in-7
returns-in-7 c = search tx_refused_ways

pub returns-in-8 : goal.returns-in-8
returns-in-8 c = search tx_refused_ways

pub returns-in_default : goal.returns-in_default
returns-in_default c = search tx_refused_ways
