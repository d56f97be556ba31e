-- `replaying::replay` meets its contract. Assumes nothing.
use mathlib.Core.Path.{refl, ap}
use borrow.Author.Tests.{eqb-false}
use Rattle.std.specs.Prelude.{Err}
use Rattle.std.proofs.lemmas.Result.{err_from_is_err_and}
use Rattle.answer.proofs.Laws.{not_done}
use Rattle.replaying.specs.Replay.{replayed_of}
use Rattle.replaying.proofs.Laws.{replay_unread, replay_short, replay_done}
use Rattle.replaying.proofs.replay.Goals as goal

pub returns-in_err-summary : goal.returns-in_err-summary
returns-in_err-summary c =
    let p = err_from_is_err_and c.from_residual.result c.from_residual.ensures.1 in
    rw (p.1, p.2) (replay_unread _ _ _ _ _ _ c.in_err-summary.ensures _ (eqb-false _ 0 (not_done c.in_err-summary.field-0.0.refusal)) refl)

pub returns-then-answers-summary : goal.returns-then-answers-summary
returns-then-answers-summary c =
    replay_short _ _ _ _ _ _ c.in_ok-summary.ensures _ refl c.if-answers-summary.true (ap (λ x. replayed_of (Err x)) c.refuse.ensures)

pub returns : goal.returns
returns c =
    replay_done _ _ _ _ _ _ c.in_ok-summary.ensures _ _ _ _ _ _ _ refl c.if-answers-summary.false
    c.copy.ensures c.new-new.ensures c.part-events.ensures c.play-device.ensures
