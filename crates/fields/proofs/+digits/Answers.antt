use Rattle.fields.proofs.Laws.{digits_none, digits_last, digits_more}
use Rattle.fields.proofs.+digits.Goals as goal

pub returns-then-most-eq0 : goal.returns-then-most-eq0
returns-then-most-eq0 t c = search digits_none

pub returns-then-n-lt10 : goal.returns-then-n-lt10
returns-then-n-lt10 t c = search digits_last

pub returns : goal.returns
returns t c = search digits_more
