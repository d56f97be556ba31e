-- `forms::pairs::byte_of` meets its contract. Assumes nothing.
use Rattle.forms.specs.Pairs.{byte_of}
use Rattle.forms.proofs.pairs.byte_of.Goals as goal

pub returns : goal.returns
unfolding byte_of
returns c = cc
