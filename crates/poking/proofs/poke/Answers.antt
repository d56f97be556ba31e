-- `poking::poke` meets its contract. Assumes nothing.
use Rattle.forms.proofs.NamedLaws.{named_short}
use Rattle.poking.proofs.Laws.{poke_is}
use mathlib.Core.Path.{refl}
use Rattle.poking.proofs.poke.Goals as goal

pub stored-inside-requires : goal.stored-inside-requires
stored-inside-requires c = search named_short

pub returns : goal.returns
returns c =
    let d = c.decode-n in
    let p = c.part in
    let s = c.stored-inside in
    let h = c.either-end in
    poke_is _ _ _ _ _ _ _ _ _ _ _ _ _ _ refl d.ensures p.ensures s.ensures.0 s.ensures.1 h.ensures
