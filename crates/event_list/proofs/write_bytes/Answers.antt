use borrow.Author.Rules.{rules}
use Rattle.memory.specs.Memory.{word_bytes}
use Rattle.event.specs.Event.{bytes_of}
use Rattle.event_list.proofs.write_bytes.Goals as goal

pub returns : goal.returns
unfolding bytes_of word_bytes
returns c = search rules
