-- What each call leaves if it is refused: the theorem. Assumes nothing.
use mathlib.Core.Path.{◌≡◌, refl}
use mathlib.Core.Logic.{◌≢◌}
use Rattle.calls.specs.Calls.{Bench, Call, looks, register_write, grant_call, receive_call, burst_call, send_call, step_run, tick_call, call}
use Rattle.changes.proofs.Branches.{by_new}
use Rattle.changes.proofs.Nowhere.{changes_nowhere_else}
use Rattle.inputs.proofs.Receives.{pair_by_pair}
use Rattle.refusals.specs.Rows.{row_of_new}
use Rattle.refusals.specs.Refusals.{ByRow, whole, RefusedLeaves}
use Rattle.refusals.proofs.Looks.{look_row}
use Rattle.refusals.proofs.Refused.{write_row, grant_row, receive_row, send_row, run_row, tick_row}
use Rattle.refusals.proofs.Bursts.{burst_row, pair_row}
use Rattle.refusals.proofs.Readings.{reading_row}

says : (b : Bench) (c : Call) → (call b c).number ≢ 0 → ByRow b c
says b (looks look) n = whole (look_row b look n)
says b (register_write offset value) n = whole (write_row b offset value n)
says b (grant_call address) n = whole (grant_row b address n)
says b (receive_call frame) n = whole (receive_row b frame n)
says b (burst_call store starts lengths answers) n = whole (burst_row b store starts lengths answers n)
says b (send_call output) n = whole (send_row b output n)
says b (step_run output allowance) n = run_row b output allowance n
says b tick_call n = whole (tick_row b n)

pub refused_leaves : RefusedLeaves
refused_leaves = record {
  of_new = λ base window. by_new (λ a. a.number ≢ 0 → a ≡ row_of_new) base window (λ h. absurd (h refl)) (λ _. refl);
  of_call = says;
  of_pair = λ b store starts lengths answers z k l n. pair_row _ _ _ _ _ (pair_by_pair b store starts lengths answers z k l) n;
  of_read = λ d offset _. changes_nowhere_else.register_read d offset;
  of_reading = reading_row;
}
