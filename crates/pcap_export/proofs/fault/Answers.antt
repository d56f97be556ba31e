use Rattle.pcap_export.proofs.Ways.{wrong_length, wrong_check, no_fault}
use Rattle.pcap_export.proofs.fault.Goals as goal

pub returns-then-not-length_allowed : goal.returns-then-not-length_allowed
returns-then-not-length_allowed c = search wrong_length

pub returns-then-not-check_right : goal.returns-then-not-check_right
returns-then-not-check_right c = search wrong_check

pub returns : goal.returns
returns c = search no_fault
