use native.Mathlib.Omega.{arith}
use Rattle.memory.proofs.Laws.{store_out}
use Rattle.pcap_import.proofs.Filling.{check_place, event_put}
use Rattle.pcap_import.proofs.frames.put_event.Goals as goal

pub returns-then-events-at : goal.returns-then-events-at
returns-then-events-at c = search store_out

pub overflow_add-at-3 : goal.overflow_add-at-3
overflow_add-at-3 c =
    record { fits = check_place _ c.args.item.now _ c.message_of-message.ensures c.requires (omega arith) }

pub returns : goal.returns
returns c =
    event_put _ _ _ _ c.args.item.now _ _ _ _ c.message_of-message.ensures c.check_number-check.ensures c.head.ensures c.store.ensures c.store-2.ensures c.store_word.ensures
