-- Which parts of the device a call leaves. Assumes nothing.
use Rattle.std.specs.Prelude.{Option, Some, None}
use Prim.Native.Nat.{ℕ, zero, suc}
use mathlib.Core.Path.{◌≡◌, refl, ap, ◌∙◌}
use mathlib.Core.Bool.{false, not}
use mathlib.Core.List.{List}
use lib.Dec.{eqb, ltb}
use borrow.Author.Tests.{eqb-true}
use Rattle.rules.proofs.Choices.{by_test, by_bool}
use Rattle.descriptor.specs.Descriptor.{next_enabled}
use Rattle.engine.specs.declared.Engine.{Engine}
use Rattle.enet.specs.declared.Enet.{Enet}
use Rattle.registers.specs.declared.Register.{Register}
use Rattle.registers.specs.declared.Register.TheVariants.{Ier, Isr, RxStart, RxNext, TxStart, TxNext, TxTimeout, Mcr, Mah, Mal, Mcha, Mcla}
use Rattle.ticking.specs.Tick.{after_write}
use Rattle.enet.specs.Device.{with_registers, with_counters, with_rx, with_tx, with_ticks, raised, rx_stopped, tx_stopped, rx_not_granted, tx_not_granted, one_lost, one_delivered, one_sent}
use Rattle.engine.specs.Engine.{led_to, stopped, not_granted}
use Rattle.engine_write.specs.EngineWrite.{dma_enabled, start_fetch, start_written}
use Rattle.outcomes.specs.Outcomes.{rx_advanced, tx_advanced}
use Rattle.registers.specs.Registers.{rx_curr_done, rx_done, tx_curr_done, tx_done, packet_lost}
use Rattle.registers.specs.Access.{register_at}
use Rattle.register_write.specs.Write.{written}
use Rattle.enet.specs.Frames.{receive}
use Rattle.enet.specs.Send.{send}
use Rattle.enet.specs.Run.{Running, sends, run}
use Rattle.enet.specs.Tick.{tick}
use Rattle.calls.specs.Calls.{Bench, register_write, call}
use Rattle.changes.specs.Parts.{status_of, register_of, ReceiveOnly, send_counters, SendOnly, PartsKept}
use Rattle.enet.proofs.Ways.{by_receive, by_send, by_tick}
use Rattle.changes.proofs.Branches.{wrote, by_write}

-- ---- register writes

-- the same, of a register write that is refused
register_same : (r : Option Register) (d : Enet) → d ≡ register_of r d d
register_same (Some Ier) d = refl
register_same (Some Isr) d = refl
register_same (Some RxStart) d = refl
register_same (Some RxNext) d = refl
register_same (Some TxStart) d = refl
register_same (Some TxNext) d = refl
register_same (Some TxTimeout) d = refl
register_same (Some Mcr) d = refl
register_same (Some Mah) d = refl
register_same (Some Mal) d = refl
register_same (Some Mcha) d = refl
register_same (Some Mcla) d = refl
register_same None d = refl

start_next : (e : Engine) (v : ℕ) → (start_written e v).next ≡ e.next
unfolding start_written
start_next e v =
    by_test (λ (x : Engine). x.next ≡ e.next) (not (dma_enabled v)) _ _ (λ _. refl) (λ _.
    by_test (λ (x : Engine). x.next ≡ e.next) e.running _ _ (λ _. refl) (λ _.
    by_test (λ (x : Engine). x.next ≡ e.next) (start_fetch v) _ _ (λ _. refl) (λ _. refl)))

-- the device with its registers written
abbrev after : Enet → Option Register → ℕ → Enet
after d r v = with_registers d (written d.registers r v)

register_written : (r : Option Register) (d : Enet) (v : ℕ) → after d r v ≡ register_of r d (after d r v)
register_written (Some Ier) d v = refl
register_written (Some Isr) d v = refl
register_written (Some RxStart) d v = rw start_next
register_written (Some RxNext) d v = refl
register_written (Some TxStart) d v = rw start_next
register_written (Some TxNext) d v = refl
register_written (Some TxTimeout) d v = refl
register_written (Some Mcr) d v = refl
register_written (Some Mah) d v = refl
register_written (Some Mal) d v = refl
register_written (Some Mcha) d v = refl
register_written (Some Mcla) d v = refl
register_written None d v = refl

-- the count of ticks stays, but where the time-out is written
written_elsewhere : (d : Enet) (offset v : ℕ) → eqb offset 0x48 ≡ false
    → let e = wrote d offset (written d.registers (register_at offset) v) in e ≡ register_of (register_at offset) d e
unfolding after_write
written_elsewhere d offset v h = rw h (register_written (register_at offset) d v)

written_timeout : (d : Enet) (offset v : ℕ) → offset ≡ 0x48
    → let e = wrote d offset (written d.registers (register_at offset) v) in e ≡ register_of (register_at offset) d e
unfolding register_at
written_timeout d offset v h = rw h

written_parts : (d : Enet) (offset v : ℕ)
    → let e = wrote d offset (written d.registers (register_at offset) v) in e ≡ register_of (register_at offset) d e
written_parts d offset v =
    by_bool (eqb offset 0x48) (λ h. written_timeout d offset v (eqb-true offset 0x48 h)) (written_elsewhere d offset v)

pub write_parts : (b : Bench) (address value : ℕ)
    → PartsKept (register_write address value) b.device (call b (register_write address value)).bench.device
write_parts b address value =
    let r = register_at address in
    by_write (λ a. a.device ≡ register_of r b.device a.device) b.device value
    (register_same r b.device) (register_same r b.device) address (written_parts b.device address value)

-- ---- receiving and sending

pub receive_parts : (d : Enet) (m frame : List ℕ) → ReceiveOnly d (receive d m frame).device
unfolding rx_advanced not_granted
receive_parts d m frame =
    by_receive (λ o. ReceiveOnly d o.device) d m frame same same same same same stops lost
    (by_test (λ r. ReceiveOnly d (one_delivered (with_registers d r))) (next_enabled d.base m d.registers.rx.place) _ _ (λ _. moves _) (λ _. ends))
  where
    same : ReceiveOnly d d
    same = record { others = refl; engine = record { start = refl; next = refl } }

    stops : ReceiveOnly d (rx_stopped d)
    stops = record { others = refl; engine = record { start = refl; next = refl } }

    lost : ReceiveOnly d (one_lost (rx_not_granted (raised d packet_lost)))
    lost =
        by_test (λ e. ReceiveOnly d (one_lost (with_rx (raised d packet_lost) e))) d.registers.rx.polling _ _
        (λ _. record { others = refl; engine = record { start = refl; next = refl } })
        (λ _. record { others = refl; engine = record { start = refl; next = refl } })

    moves : (p : ℕ) → ReceiveOnly d (one_delivered (with_rx (raised d rx_curr_done) (led_to d.registers.rx p)))
    moves p = record { others = refl; engine = record { start = refl; next = refl } }

    ends : ReceiveOnly d (one_delivered (with_rx (raised (raised d rx_curr_done) rx_done) (stopped d.registers.rx)))
    ends = record { others = refl; engine = record { start = refl; next = refl } }

pub send_parts : (d : Enet) (m out : List ℕ) → SendOnly d (send d m out).device
unfolding tx_advanced not_granted
send_parts d m out =
    by_send (λ s. SendOnly d s.device) d m out same same same stops ungranted stops
    (λ _ _. by_test (λ r. SendOnly d (one_sent (with_registers d r))) (next_enabled d.base m d.registers.tx.place) _ _ (λ _. moves _) (λ _. ends))
  where
    same : SendOnly d d
    same = record { others = refl; engine = record { start = refl; next = refl } }

    stops : SendOnly d (tx_stopped d)
    stops = record { others = refl; engine = record { start = refl; next = refl } }

    ungranted : SendOnly d (tx_not_granted d)
    ungranted =
        by_test (λ e. SendOnly d (with_tx d e)) d.registers.tx.polling _ _
        (λ _. record { others = refl; engine = record { start = refl; next = refl } })
        (λ _. record { others = refl; engine = record { start = refl; next = refl } })

    moves : (p : ℕ) → SendOnly d (one_sent (with_tx (raised d tx_curr_done) (led_to d.registers.tx p)))
    moves p = record { others = refl; engine = record { start = refl; next = refl } }

    ends : SendOnly d (one_sent (with_tx (raised (raised d tx_curr_done) tx_done) (stopped d.registers.tx)))
    ends = record { others = refl; engine = record { start = refl; next = refl } }

both : (d e f : Enet) → SendOnly d e → SendOnly e f → SendOnly d f
both d e f p q = record {
  others = q.others ∙ ap (λ x. with_counters (with_tx (status_of x f) f.registers.tx) (send_counters x.counters f.counters)) p.others;
  engine = record { start = q.engine.start ∙ p.engine.start; next = q.engine.next ∙ p.engine.next };
}

sends_parts : (left : ℕ) (d : Enet) (m out : List ℕ) → SendOnly d (sends left d m out).device
unfolding sends
sends_parts zero d m out = record { others = refl; engine = record { start = refl; next = refl } }
sends_parts (suc left) d m out =
    by_test (λ (r : Running). SendOnly d r.device) (eqb (send d m out).number 0) _ _
    (λ _. both d _ _ (send_parts d m out) (sends_parts left _ _ _))
    (λ _. send_parts d m out)

pub run_parts : (d : Enet) (m out : List ℕ) (allowance : ℕ) → SendOnly d (run d m out allowance).device
unfolding run
run_parts d m out allowance =
    by_test (λ (r : Running). SendOnly d r.device) (ltb 4096 allowance) _ _
    (λ _. record { others = refl; engine = record { start = refl; next = refl } })
    (λ _. sends_parts allowance d m out)

-- ---- a tick

pub tick_parts : (d : Enet) (m : List ℕ) → let e = (tick d m).device in e ≡ with_ticks (status_of d e) e.counters.ticks
tick_parts d m = by_tick (λ a. let e = a.device in e ≡ with_ticks (status_of d e) e.counters.ticks) d m refl refl refl refl
