-- `fields::bytes` meets its contract. Assumes nothing.
use Rattle.text.proofs.Laws.{put_within}
use Rattle.fields.proofs.Laws.{bytes_none, bytes_some}
use Rattle.fields.proofs.bytes.Goals as goal

pub returns-then-is_empty : goal.returns-then-is_empty
returns-then-is_empty c = search bytes_none

pub pairs-requires : goal.pairs-requires
pairs-requires c = search put_within

pub returns : goal.returns
returns c = search bytes_some
