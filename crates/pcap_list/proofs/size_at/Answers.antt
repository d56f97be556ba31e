use Rattle.pcap_list.proofs.Laws.{none_left, no_head, no_frame, whole_entry}
use Rattle.pcap_list.proofs.size_at.Goals as goal

pub returns-in_err-checked_sub : goal.returns-in_err-checked_sub
returns-in_err-checked_sub c = none_left _ _ _ c.from_residual.ensures c.in_err-checked_sub.ensures

pub returns-in_err-left : goal.returns-in_err-left
returns-in_err-left c = no_head _ _ _ c.in_ok-checked_sub.ensures _ c.from_residual-in_err-left.ensures c.in_err-left.ensures

pub returns-then-left-n : goal.returns-then-left-n
returns-then-left-n c = no_frame _ _ _ c.in_ok-checked_sub.ensures _ _ c.in_ok-left.ensures c.word-n.ensures c.if-left-n.true

pub returns-else-left-n : goal.returns-else-left-n
returns-else-left-n c = whole_entry _ _ _ c.in_ok-checked_sub.ensures _ _ c.in_ok-left.ensures c.word-n.ensures c.if-left-n.false
