use Rattle.day_lines.proofs.Laws.{opens}
use Rattle.day_lines.proofs.begun.Goals as goal

pub returns : goal.returns
returns c = search opens
