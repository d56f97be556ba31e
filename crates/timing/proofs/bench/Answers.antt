use Rattle.timing.proofs.Laws.{bench_is}
use Rattle.timing.proofs.bench.Goals as goal

pub returns : goal.returns
returns c = search bench_is
