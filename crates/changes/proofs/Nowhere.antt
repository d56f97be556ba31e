-- No call changes anything else than its rule names. Assumes nothing.
use Prim.Native.Nat.{ℕ, zero, suc}
use mathlib.Core.Path.{◌≡◌, refl}
use mathlib.Core.Logic.{◌≢◌}
use mathlib.Core.List.{List, []}
use native.Mathlib.Omega.{arith}
use lib.Dec.{eqb, ltb}
use Rattle.rules.proofs.Choices.{by_test}
use Rattle.enet.specs.declared.Enet.{Enet}
use Rattle.enet.specs.Access.{read}
use Rattle.enet.specs.Send.{send}
use Rattle.enet.specs.Run.{Running, sends, run}
use Rattle.calls.specs.Calls.{Bench, Call, looks, register_write, grant_call, receive_call, burst_call, send_call, step_run, tick_call}
use Rattle.enet.proofs.Sends.{send_unsent}
use Rattle.changes.specs.Nowhere.{Kept, NowhereElse}
use Rattle.enet.proofs.Ways.{by_grant, by_receive}
use Rattle.outputs.proofs.Sends.{send_front, send_size_lem}
use Rattle.changes.proofs.Memories.{same, grant_kept, receive_kept, send_kept, run_kept}
use Rattle.outputs.proofs.Outputs.{run_front}
use Rattle.changes.proofs.Devices.{write_parts, receive_parts, send_parts, run_parts, tick_parts}
use Rattle.burst.proofs.Laws.{length_burst}
use Rattle.changes.proofs.Bursts.{burst_kept, burst_refused, burst_parts, burst_status_lem}
use Rattle.changes.proofs.Statuses.{receive_status_lem, send_status_lem, run_status_lem, tick_status_lem, write_status_lem}

-- ---- a refusal changes no byte

-- a run that made no step
no_step : (left : ℕ) (d : Enet) (m out : List ℕ) → (sends left d m out).steps ≡ 0 → (sends left d m out).memory ≡ m
unfolding sends
no_step zero d m out = λ _. refl
no_step (suc left) d m out =
    by_test (λ (r : Running). r.steps ≡ 0 → r.memory ≡ m) (eqb (send d m out).number 0) _ _
    (λ _ z. absurd (omega arith))
    (λ _ z. absurd (omega arith))

-- ---- every call

kept : (b : Bench) (c : Call) → Kept b c
unfolding run
kept b (looks look) = record { memory = same _ _; refused = λ n z. refl; device = refl }
kept b (register_write address value) = record { memory = same _ _; refused = λ n z. refl; device = write_parts b address value }
kept b (grant_call address) = record {
  memory = grant_kept b address;
  refused = λ n z.
      by_grant (λ o. o.number ≢ 0 → o.memory ≡ b.memory) b.device b.memory address
      (λ _. refl) (λ _. refl) (λ _. refl) (λ h. absurd (h refl)) n;
  device = by_grant (λ o. o.device ≡ b.device) b.device b.memory address refl refl refl refl;
}
kept b (receive_call frame) = record {
  memory = receive_kept b frame;
  refused = λ n z.
      by_receive (λ o. o.number ≢ 0 → o.memory ≡ b.memory) b.device b.memory frame
      (λ _. refl) (λ _. refl) (λ _. refl) (λ _. refl) (λ _. refl) (λ _. refl) (λ _. refl) (λ h. absurd (h refl)) n;
  device = receive_parts b.device b.memory frame;
}
kept b (burst_call store starts lengths answers) = record {
  memory = burst_kept b store starts lengths answers;
  refused = λ n z. burst_refused b store starts lengths answers n;
  device = burst_parts b store starts lengths answers;
}
kept b (send_call output) = record {
  memory = send_kept b output [];
  refused = λ n z. (send_unsent b.device b.memory output n).memory;
  device = send_parts b.device b.memory output;
}
kept b (step_run output allowance) = record {
  memory = run_kept b output allowance;
  refused = λ n z.
      by_test (λ (r : Running). r.steps ≡ 0 → r.memory ≡ b.memory) (ltb 4096 allowance) _ _
      (λ _ _. refl)
      (λ _. no_step allowance b.device b.memory output)
      z;
  device = run_parts b.device b.memory output allowance;
}
kept b tick_call = record { memory = same _ _; refused = λ n z. refl; device = tick_parts b.device b.memory }

read_device : (d : Enet) (offset : ℕ) → (read d offset).device ≡ d
unfolding read
read_device d offset = refl

pub changes_nowhere_else : NowhereElse
changes_nowhere_else = record {
  calls = kept;
  register_read = read_device;
  send_output = λ b output. send_front b.device b.memory output;
  send_size = send_size_lem;
  run_output = run_front;
  receive_status = receive_status_lem;
  burst_status = burst_status_lem;
  burst_list = λ b store starts lengths answers. length_burst b.device b.memory store starts lengths answers;
  send_status = λ b output. send_status_lem b.device b.memory output;
  run_status = run_status_lem;
  tick_status = tick_status_lem;
  write_status = write_status_lem;
}
