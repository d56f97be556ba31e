use borrow.Author.Rules.{rules}
use Rattle.memory.specs.Memory.{word_bytes}
use Rattle.event_list.proofs.numbered.Goals as goal

pub returns : goal.returns
unfolding word_bytes
returns c = search rules
