-- `frame::frame_number` meets its contract. Assumes nothing.
use Rattle.frame.proofs.Exits.{length_4, check_5, address_6, none_met_0}
use Rattle.frame.proofs.frame_number.Goals as goal

pub returns-then-not-length_allowed : goal.returns-then-not-length_allowed
returns-then-not-length_allowed c = search length_4

pub returns-then-not-check_right : goal.returns-then-not-check_right
returns-then-not-check_right c = search check_5

pub returns-then-is_none : goal.returns-then-is_none
returns-then-is_none c = search address_6

pub returns : goal.returns
returns c = search none_met_0
