use Rattle.std.proofs.Common.{◌∙◌, rules}
use Rattle.std.proofs.lemmas.Iterator.{YieldsList-from_slice}
use Rattle.std.proofs.lemmas.Iterator.Search.{position_from_yields_List}
use Rattle.first_where.proofs.Laws.{found}
use Rattle.vic_service.proofs.last_taken.Goals as goal

pub returns : goal.returns
returns c =
    let s = c.args.service.now in
    let p = position_from_yields_List (λ b. b) _ _ _ c.position.ensures.ran (YieldsList-from_slice s cc) (λ x b q k. search rules) in
    c.unwrap_or.ensures ∙ found (λ b. b) s c.position.result p
