use Rattle.vic_rank.proofs.Laws.{all_sixteen}
use Rattle.vic_rank.proofs.lowest_rank.Goals as goal

pub returns : goal.returns
returns c = search all_sixteen
