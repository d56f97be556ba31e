use borrow.Author.Rules.{rules}
use Rattle.block.specs.Fields.{used_length}
use Rattle.block.proofs.used.Goals as goal

pub returns : goal.returns
unfolding used_length
returns c = search rules
