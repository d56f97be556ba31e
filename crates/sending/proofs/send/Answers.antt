use Rattle.sending.proofs.Laws.{send_done}
use Rattle.sending.proofs.send.Goals as goal

pub returns : goal.returns
returns c = search (send_done, c.in_default.ensures)
