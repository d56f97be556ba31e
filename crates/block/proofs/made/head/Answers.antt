use borrow.Author.Rules.{rules}
use Rattle.block.specs.Made.{half_bytes}
use Rattle.block.proofs.made.head.Goals as goal

pub returns : goal.returns
unfolding half_bytes
returns c = search rules
