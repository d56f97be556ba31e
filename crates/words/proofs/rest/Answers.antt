-- `words::rest` meets its contract. Assumes nothing.
use Rattle.words.proofs.Laws.{rest_none, rest_is}
use Rattle.words.proofs.rest.Goals as goal

pub returns-in-Some : goal.returns-in-Some
returns-in-Some c = search rest_is

pub returns-in-None : goal.returns-in-None
returns-in-None c = search rest_none
