-- `pair_words::pairs_behind` meets its contract. Assumes nothing.
use Rattle.pair_words.proofs.Laws.{behind_wrong, behind_none, behind_some}
use Rattle.pair_words.proofs.pairs_behind.Goals as goal

pub returns-in_err-byte_count : goal.returns-in_err-byte_count
returns-in_err-byte_count c = search (behind_wrong, c.in_err-byte_count.was)

pub returns-then-not-spaced : goal.returns-then-not-spaced
returns-then-not-spaced c = search (behind_none, c.in_ok-byte_count.was)

pub returns : goal.returns
returns c = search (behind_some, c.in_ok-byte_count.was)
