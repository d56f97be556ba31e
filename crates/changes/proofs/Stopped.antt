-- Sends and step runs while sending does not run: the bench stays as it is. Assumes nothing.
use Prim.Native.Nat.{ℕ, zero, suc}
use mathlib.Core.Path.{◌≡◌, refl, ap, ◌∙◌}
use mathlib.Core.Bool.{false}
use mathlib.Core.List.{List}
use lib.Dec.{eqb, ltb}
use lib.ListN.{length}
use Rattle.window.specs.Window.{lent}
use Rattle.outcomes.specs.Outcomes.{tx_refused}
use Rattle.sending.specs.Sending.{send_number}
use Rattle.enet.specs.declared.Enet.{Enet}
use Rattle.enet.specs.Send.{send}
use Rattle.enet.proofs.Ways.{refused}
use Rattle.enet.specs.Send as enet
use Rattle.sending.specs.Send as plain
use Rattle.sending.specs.Send.{send_at}
use Rattle.enet.specs.Run.{sends, run}
use Rattle.rules.proofs.Choices.{by_bool}
use Rattle.calls.specs.Calls.{Bench, send_call, step_run, call, of_sending, of_running}

module _ (d : Enet) (m out : List ℕ) (off : d.registers.tx.running ≡ false) where
  -- it is refused with 11, 9 or 3
  send_refused : (k : ℕ) × ((eqb k 0 ≡ false) × (send d m out ≡ refused k d m out))
  unfolding send plain.send send_at send_number tx_refused
  send_refused =
      by_bool (lent d.window m)
      (λ e. by_bool (ltb (length out) 1518) (λ s. (9, (refl, now ∙ rw (e, s)))) (λ s. (3, (refl, now ∙ rw (e, s)))))
      (λ e. (11, (refl, now ∙ rw e)))
    where
      -- a path through the projection: `rw` by it would open d wherever it stands
      now : send d m out ≡ enet.of_sending d (send_at d.base d.window d.registers false d.registers.tx.place m out)
      now = λ j. enet.of_sending d (send_at d.base d.window d.registers (off j) d.registers.tx.place m out)

  sends_refused : (left : ℕ) → (of_running (sends left d m out)).bench ≡ record { device = d; memory = m }
  unfolding sends
  sends_refused zero = refl
  sends_refused (suc left) = rw (send_refused.1.1, send_refused.1.0)

module _ (b : Bench) (off : b.device.registers.tx.running ≡ false) where
  pub send_stopped : (output : List ℕ) → (call b (send_call output)).bench ≡ b
  send_stopped output = ap (λ s. (of_sending s).bench) (send_refused b.device b.memory output off).1.1

  pub run_stopped : (output : List ℕ) (allowance : ℕ) → (call b (step_run output allowance)).bench ≡ b
  unfolding run
  run_stopped output allowance =
      by_bool (ltb 4096 allowance) (λ e. rw e) (λ e. rw e (sends_refused b.device b.memory output off allowance))
