use Rattle.std.proofs.Common.{refl, sym, ◌∙◌}
use Rattle.pcap_export.proofs.Refused.{err_number, not_zero}
use Rattle.pcap_export.proofs.Ways.{not_of_its_form, frames_are, wrong_frame, no_header, no_records, enough}
use Rattle.pcap_export.proofs.look.Goals as goal

pub returns-in-Err-clause-number : goal.returns-in-Err-clause-number
returns-in-Err-clause-number c = not_of_its_form _ _ _ (sym c.in-Err.is ∙ c.walk.ensures)

pub returns-in_err-first_wrong-clause-number : goal.returns-in_err-first_wrong-clause-number
returns-in_err-first_wrong-clause-number c =
    err_number _ _ c.from_residual.ensures
    ∙ wrong_frame _ _ _ (sym c.in-Ok.is ∙ c.walk.ensures) _ c.in_err-first_wrong.ensures (not_zero _)

pub returns-then-room-lt-HEADER-clause-number : goal.returns-then-room-lt-HEADER-clause-number
returns-then-room-lt-HEADER-clause-number c =
    no_header _ _ _ (sym c.in-Ok.is ∙ c.walk.ensures) _ c.in_ok-first_wrong.ensures refl c.if-room-lt-HEADER.true

pub returns-then-room-list-clause-number : goal.returns-then-room-list-clause-number
returns-then-room-list-clause-number c =
    no_records _ _ _ (sym c.in-Ok.is ∙ c.walk.ensures) _ c.in_ok-first_wrong.ensures refl c.if-room-lt-HEADER.false c.if-room-list.true

pub returns-clause-number : goal.returns-clause-number
returns-clause-number c =
    enough _ _ _ (sym c.in-Ok.is ∙ c.walk.ensures) _ c.in_ok-first_wrong.ensures refl c.if-room-lt-HEADER.false c.if-room-list.false

pub returns-clause-frames : goal.returns-clause-frames
returns-clause-frames c = frames_are _ 0 _ (sym c.in-Ok.is ∙ c.walk.ensures)
