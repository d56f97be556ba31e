-- `script::silent` meets its contract. Assumes nothing.
use Rattle.script.proofs.SilentLaws.{silent_empty, silent_first}
use Rattle.script.proofs.silent.Goals as goal

pub returns-then-is_empty : goal.returns-then-is_empty
returns-then-is_empty c = search silent_empty

pub returns-else-is_empty : goal.returns-else-is_empty
returns-else-is_empty c = search silent_first
