-- `script::given` meets its contract. Assumes nothing.
use Rattle.script.proofs.CallLaws.{given_first, given_second, given_both}
use Rattle.script.proofs.given.Goals as goal

pub returns-in_default : goal.returns-in_default
returns-in_default c = search given_first

pub returns-in_default-b : goal.returns-in_default-b
returns-in_default-b c = search given_second

pub returns : goal.returns
returns c = search given_both
