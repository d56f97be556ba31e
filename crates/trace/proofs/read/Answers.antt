use mathlib.Core.Path.{refl}
use borrow.Author.Tests.{eqb-false}
use Rattle.std.proofs.lemmas.Result.{err_from_is_err_and}
use Rattle.answer.proofs.Laws.{not_done}
use Rattle.trace.proofs.Looked.{read_good, read_refused}
use Rattle.trace.proofs.read.Goals as goal

pub returns-in_err-summary : goal.returns-in_err-summary
returns-in_err-summary c =
    let p = err_from_is_err_and c.from_residual.result c.from_residual.ensures.1 in
    rw (p.1, p.2) (read_refused _ _ _ _ c.in_err-summary.ensures (eqb-false _ 0 (not_done c.in_err-summary.field-0.0.refusal)) refl)

pub returns : goal.returns
returns c = read_good _ _ _ _ c.in_ok-summary.ensures refl c.copy.ensures
