use Rattle.board.proofs.Laws.{not_new, is_new, no_call}
use Rattle.board.proofs.renewed.Goals as goal

pub returns-then-not-is : goal.returns-then-not-is
returns-then-not-is c = search not_new

pub returns-then-renews : goal.returns-then-renews
returns-then-renews c = search is_new

pub returns : goal.returns
returns c = search no_call
