use Rattle.vic_script.proofs.Laws.{write_of_is}
use Rattle.vic_script.proofs.write_of.Goals as goal

pub returns : goal.returns
returns c = search write_of_is
