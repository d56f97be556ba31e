use borrow.Author.Rules.{rules}
use Rattle.block.specs.Fields.{block_number}
use Rattle.block.proofs.number.Goals as goal

pub returns : goal.returns
unfolding block_number
returns c = search rules
