use borrow.Author.Rules.{rules}
use Rattle.sending.proofs.Laws.{put_counted, put_stored}
use Rattle.sending.proofs.transmission.transmit.Goals as goal

pub returns : goal.returns
returns c = record { count = search put_counted; output = search put_stored; memory = search rules }
