use Rattle.receiving.proofs.Numbers.{received_short}
use Rattle.receiving.proofs.receive.Goals as goal

pub deliver-requires : goal.deliver-requires
deliver-requires c = search (received_short, c.in_default.ensures)
