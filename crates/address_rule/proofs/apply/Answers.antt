use Rattle.address_rule.proofs.Exits.{short_not_taken, by_receive_all, by_broadcast, by_group, by_station}
use Rattle.address_rule.proofs.apply.Goals as goal

pub returns-then-frame-lt6 : goal.returns-then-frame-lt6
returns-then-frame-lt6 c = search short_not_taken

pub returns-then-receive_all : goal.returns-then-receive_all
returns-then-receive_all c = search by_receive_all

pub returns-then-same : goal.returns-then-same
returns-then-same c = search by_broadcast

pub returns-then-frame-eq1 : goal.returns-then-frame-eq1
returns-then-frame-eq1 c = search by_group

pub returns : goal.returns
returns c = search by_station
