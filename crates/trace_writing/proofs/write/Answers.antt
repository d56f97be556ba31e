-- `trace_writing::write` meets its contract: refused, or with the blocks put. Assumes nothing.
use mathlib.Core.Path.{refl}
use borrow.Author.Tests.{eqb-false}
use Rattle.std.proofs.lemmas.Result.{err_from_is_err_and}
use Rattle.answer.proofs.Laws.{not_done}
use Rattle.trace_writing.proofs.Ways.{write_refused, write_can, write_done}
use Rattle.trace_writing.proofs.write.Goals as goal

pub returns-in_err-check : goal.returns-in_err-check
returns-in_err-check c =
    let p = err_from_is_err_and c.from_residual.result c.from_residual.ensures.1 in
    rw (p.1, p.2) (write_refused _ _ _ _ _ c.in_err-check.ensures (eqb-false _ 0 (not_done c.in_err-check.field-0.0)))

pub put_all-requires : goal.put_all-requires
put_all-requires c =
    write_can _ _ _ _ 0 _ c.in_ok-check.ensures refl c.needed-blocks.ensures

pub returns : goal.returns
returns c = write_done _ _ _ _ 0 c.in_ok-check.ensures refl _ _ c.needed-blocks.ensures c.put_all.ensures
