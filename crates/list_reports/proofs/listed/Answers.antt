-- `list_reports::listed` meets its contract. Assumes nothing.
use Rattle.text.proofs.Laws.{put_within}
use Rattle.list_reports.proofs.Laws.{listed_is}
use Rattle.list_reports.proofs.listed.Goals as goal

pub numbers-end-requires : goal.numbers-end-requires
numbers-end-requires c = search put_within

pub returns : goal.returns
returns c = search listed_is
