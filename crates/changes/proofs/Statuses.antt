-- Which status bits receiving, sending and a tick set, and that a register write sets none. Assumes nothing.
use Rattle.std.specs.Prelude.{Option, Some, None}
use Prim.Native.Nat.{ℕ, zero, suc}
use mathlib.Core.Path.{refl}
use mathlib.Core.List.{List}
use lib.Dec.{eqb, ltb}
use Rattle.rules.proofs.Choices.{by_test}
use Rattle.descriptor.specs.Descriptor.{next_enabled}
use Rattle.enet.specs.declared.Enet.{Enet}
use Rattle.registers.specs.declared.Registers.{Registers}
use Rattle.registers.specs.declared.Register.{Register}
use Rattle.registers.specs.declared.Register.TheVariants.{Ier, Isr, RxStart, RxNext, TxStart, TxNext, TxTimeout, Mcr, Mah, Mal, Mcha, Mcla}
use Rattle.registers.specs.Access.{register_at}
use Rattle.writable.specs.Writable.{kept}
use Rattle.register_write.specs.Write.{written}
use Rattle.registers.specs.Registers.{tx_curr_done, tx_done, rx_curr_done, rx_done, packet_lost, tx_to}
use Rattle.outcomes.specs.Outcomes.{rx_advanced, tx_advanced}
use Rattle.enet.specs.Send.{send}
use Rattle.enet.specs.Run.{Running, sends, run}
use Rattle.calls.specs.Calls.{Bench, register_write, receive_call, step_run, tick_call, call}
use Rattle.changes.specs.Parts.{Raises, unchanged, then_set, Clears, uncleared, cleared_by, receive_bits, send_bits, tick_bits, StatusRaised}
use Rattle.enet.proofs.Ways.{by_receive, by_send, by_tick}
use Rattle.changes.proofs.Branches.{by_write}

pub both : {masks : List ℕ} {i j k : ℕ} → Raises masks i j → Raises masks j k → Raises masks i k
both p unchanged = p
both p (then_set mask e q) = then_set mask e (both p q)

pub receive_status_lem : (b : Bench) (frame : List ℕ) → StatusRaised receive_bits b (receive_call frame)
unfolding rx_advanced
receive_status_lem b frame =
    by_receive (λ o. Raises receive_bits b.device.registers.isr o.device.registers.isr) b.device b.memory frame
    unchanged unchanged unchanged unchanged unchanged unchanged (then_set packet_lost refl unchanged)
    (by_test (λ (r : Registers). Raises receive_bits b.device.registers.isr r.isr) (next_enabled b.device.base b.memory b.device.registers.rx.place) _ _
    (λ _. then_set rx_curr_done refl unchanged)
    (λ _. then_set rx_done refl (then_set rx_curr_done refl unchanged)))

pub send_status_lem : (d : Enet) (m out : List ℕ) → Raises send_bits d.registers.isr (send d m out).device.registers.isr
unfolding tx_advanced
send_status_lem d m out =
    by_send (λ s. Raises send_bits d.registers.isr s.device.registers.isr) d m out unchanged unchanged unchanged unchanged unchanged unchanged
    (λ _ _.
    by_test (λ (r : Registers). Raises send_bits d.registers.isr r.isr) (next_enabled d.base m d.registers.tx.place) _ _
    (λ _. then_set tx_curr_done refl unchanged)
    (λ _. then_set tx_done refl (then_set tx_curr_done refl unchanged)))

sends_status : (left : ℕ) (d : Enet) (m out : List ℕ) → Raises send_bits d.registers.isr (sends left d m out).device.registers.isr
unfolding sends
sends_status zero d m out = unchanged
sends_status (suc left) d m out =
    by_test (λ (r : Running). Raises send_bits d.registers.isr r.device.registers.isr) (eqb (send d m out).number 0) _ _
    (λ _. both (send_status_lem d m out) (sends_status left _ _ _))
    (λ _. send_status_lem d m out)

pub run_status_lem : (b : Bench) (output : List ℕ) (allowance : ℕ) → StatusRaised send_bits b (step_run output allowance)
unfolding run
run_status_lem b output allowance =
    by_test (λ (r : Running). Raises send_bits b.device.registers.isr r.device.registers.isr) (ltb 4096 allowance) _ _
    (λ _. unchanged)
    (λ _. sends_status allowance b.device b.memory output)

pub tick_status_lem : (b : Bench) → StatusRaised tick_bits b tick_call
tick_status_lem b =
    by_tick (λ a. Raises tick_bits b.device.registers.isr a.device.registers.isr) b.device b.memory
    unchanged unchanged (then_set tx_to refl unchanged) unchanged

written_clears : (a : Option Register) (r : Registers) (v : ℕ) → Clears r.isr (written r a v).isr
written_clears (Some Ier) r v = uncleared
written_clears (Some Isr) r v = cleared_by (kept (Some Isr) v)
written_clears (Some RxStart) r v = uncleared
written_clears (Some RxNext) r v = uncleared
written_clears (Some TxStart) r v = uncleared
written_clears (Some TxNext) r v = uncleared
written_clears (Some TxTimeout) r v = uncleared
written_clears (Some Mcr) r v = uncleared
written_clears (Some Mah) r v = uncleared
written_clears (Some Mal) r v = uncleared
written_clears (Some Mcha) r v = uncleared
written_clears (Some Mcla) r v = uncleared
written_clears None r v = uncleared

pub write_status_lem : (b : Bench) (offset value : ℕ)
    → Clears b.device.registers.isr (call b (register_write offset value)).bench.device.registers.isr
write_status_lem b offset value =
    by_write (λ a. Clears b.device.registers.isr a.device.registers.isr) b.device value uncleared uncleared offset
    (written_clears (register_at offset) b.device.registers value)
