use Rattle.counters.proofs.Laws.{send_sends}
use Rattle.counters.proofs.Counters.after_send.Goals as goal

pub returns-then-number-eq-DONE : goal.returns-then-number-eq-DONE
returns-then-number-eq-DONE c = search send_sends
