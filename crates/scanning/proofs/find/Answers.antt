use Rattle.std.proofs.Common.{rules, tests}
use Rattle.std.proofs.lemmas.Iterator.{YieldsList-from_slice}
use Rattle.std.proofs.lemmas.Iterator.Search.{position_from_yields_List}
use Rattle.scanning.proofs.Places.{place_told}
use Rattle.scanning.proofs.find.Goals as goal

pub returns-clause-index : goal.returns-clause-index
returns-clause-index c =
    place_told c.args.b c.args.s.now c.position.result
    (position_from_yields_List _ _ _ c.position.result c.position.ensures.ran (YieldsList-from_slice c.args.s.now cc) (λ x b q k. search (rules, tests)))
