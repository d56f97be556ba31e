-- `block::all_zero` meets its contract. Assumes nothing.
use mathlib.Core.Path.{◌∙◌}
use lib.Dec.{eqb}
use Rattle.std.proofs.Common.{rules, tests}
use Rattle.std.proofs.lemmas.Iterator.{YieldsList-from_slice}
use Rattle.std.proofs.lemmas.Iterator.Search.{all_from_yields_List}
use Rattle.block.proofs.Parts.{zeros}
use Rattle.block.proofs.all_zero.Goals as goal

pub returns : goal.returns
returns c =
    let read = YieldsList-from_slice c.args.bytes.now cc in
    all_from_yields_List (λ x. eqb x 0) _ _ c.all.result c.all.ensures.ran read (λ x b q k. search (rules, tests))
    ∙ zeros c.args.bytes.now
