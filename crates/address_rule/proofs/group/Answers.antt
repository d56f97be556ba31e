use Rattle.address_rule.proofs.Exits.{hash_decides, mode_takes, mode_refuses}
use Rattle.address_rule.proofs.group.Goals as goal

pub returns-in-1 : goal.returns-in-1
returns-in-1 c = search hash_decides

pub returns-in-5 : goal.returns-in-5
returns-in-5 c = search mode_takes

pub returns-in_default : goal.returns-in_default
returns-in_default c = search mode_refuses
