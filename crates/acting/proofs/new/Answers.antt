-- `acting::new` meets its contract. Assumes nothing.
use Rattle.acting.proofs.Laws.{new_made}
use Rattle.acting.proofs.new.Goals as goal

pub returns : goal.returns
returns c =
    let e = c.args in
    let a = c.answered in
    let f = c.new-a in
    let p = new_made e.console _ _ _ _ _ _ _ f.ensures a.ensures.0 a.ensures.1 in
    record { console_value = p.0; text_after = p.1 }
