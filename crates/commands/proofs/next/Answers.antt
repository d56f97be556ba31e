-- `commands::next` meets its contract. Assumes nothing.
use mathlib.Core.Path.{refl}
use Rattle.commands.proofs.next.Goals as goal

pub returns : goal.returns
returns c = refl
