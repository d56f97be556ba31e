use Rattle.std.proofs.Common.{rules}
use Rattle.words.specs.Words.{is}
use Rattle.words.proofs.is.Goals as goal

pub returns : goal.returns
unfolding is
returns c = search rules
