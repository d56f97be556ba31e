use Rattle.stream.proofs.Laws.{used_here}
use Rattle.stream.proofs.used_data.Goals as goal

pub returns : goal.returns
returns c = search used_here
