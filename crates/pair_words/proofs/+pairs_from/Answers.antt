use Rattle.pair_words.proofs.Laws.{pairs_none, pairs_start, pairs_length, pairs_last, pairs_more}
use Rattle.pair_words.proofs.+pairs_from.Goals as goal

pub returns-then-left-eq0 : goal.returns-then-left-eq0
returns-then-left-eq0 t c = search pairs_none

pub returns-in_err-first_number : goal.returns-in_err-first_number
returns-in_err-first_number t c = search (pairs_start, c.in_err-first_number.was)

pub returns-in_err-first_number-2 : goal.returns-in_err-first_number-2
returns-in_err-first_number-2 t c = search (pairs_length, c.in_ok-first_number.was, c.in_err-first_number-2.was)

pub returns-then-not-spaced : goal.returns-then-not-spaced
returns-then-not-spaced t c = search (pairs_last, c.in_ok-first_number.was, c.in_ok-first_number-2.was)

pub returns : goal.returns
returns t c = search (pairs_more, c.in_ok-first_number.was, c.in_ok-first_number-2.was)
