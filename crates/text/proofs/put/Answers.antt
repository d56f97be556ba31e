-- `text::put` meets its contract. Assumes nothing.
use Rattle.text.proofs.Laws.{ways}
use Rattle.text.proofs.put.Goals as goal

pub returns-then-text-at : goal.returns-then-text-at
returns-then-text-at c = search ways

pub returns-then-text-at-2 : goal.returns-then-text-at-2
returns-then-text-at-2 c = search ways

pub returns : goal.returns
returns c = search ways
