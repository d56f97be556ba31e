use Rattle.granting.proofs.Laws.{grant_refused, grant_done}
use Rattle.granting.proofs.grant.Goals as goal

pub returns-in_err-number : goal.returns-in_err-number
returns-in_err-number c = grant_refused _ _ _ _ _ _ c.from_residual.ensures.1 c.in_err-number.ensures

pub returns : goal.returns
returns c = search (grant_done, c.in_ok-number.ensures)
