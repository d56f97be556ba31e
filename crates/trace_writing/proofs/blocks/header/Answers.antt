-- `trace_writing::blocks::header` meets its contract. Assumes nothing.
use borrow.Author.Rules.{rules}
use Rattle.memory.specs.Memory.{word_bytes}
use Rattle.block.specs.Made.{half_bytes}
use Rattle.trace_writing.proofs.blocks.header.Goals as goal

pub returns : goal.returns
unfolding word_bytes half_bytes
returns c = search rules
