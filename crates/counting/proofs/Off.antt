-- Value 0 keeps the count of ticks at 0. Assumes nothing.
use Prim.Native.Nat.{ℕ, zero, suc, ◌+◌}
use mathlib.Core.Path.{◌≡◌, refl, sym, ap, ◌∙◌}
use mathlib.Core.Bool.{Bool, true, false, not, false≢true}
use mathlib.Core.List.{List, [], ◌∷◌}
use lib.Dec.{eqb, ltb}
use borrow.Author.Tests.{eq-eqb, eqb-true, eqb-false}
use Rattle.std.specs.Prelude.{if◌then◌else◌, Option, Some, None}
use Rattle.rules.proofs.Choices.{by_test, by_bool}
use Rattle.window.specs.Window.{lent}
use Rattle.engine.specs.Engine.{not_granted}
use Rattle.registers.specs.declared.Registers.{Registers}
use Rattle.registers.specs.declared.Register.{Register}
use Rattle.registers.specs.declared.Register.TheVariants.{Ier, Isr, RxStart, RxNext, TxStart, TxNext, TxTimeout, Mcr, Mah, Mal, Mcha, Mcla}
use Rattle.registers.specs.Access.{register_at}
use Rattle.writable.specs.Writable.{kept}
use Rattle.register_write.specs.Write.{written}
use Rattle.outcomes.specs.Outcomes.{tx_advanced}
use Rattle.ticking.specs.Tick as plain
use Rattle.ticking.specs.Tick.{stalled, after_write}
use Rattle.enet.specs.declared.Enet.{Enet}
use Rattle.enet.specs.Device.{new}
use Rattle.enet.specs.Send.{send}
use Rattle.enet.specs.Run.{Running, sends, run}
use Rattle.enet.specs.Tick.{of_ticked, tick}
use Rattle.enet.proofs.Ways.{by_grant, by_send}
use Rattle.calls.specs.Calls.{Bench, Call, looks, register_write, grant_call, receive_call, burst_call, send_call, step_run, tick_call, call}
use Rattle.changes.specs.Parts.{ReceiveOnly}
use Rattle.changes.proofs.Branches.{wrote, by_new, by_write}
use Rattle.changes.proofs.Nowhere.{changes_nowhere_else}
use Rattle.counting.specs.Events.{Lent, meets, next, after}
use Rattle.counting.specs.Ticks.{OffIsZero}

-- what holds of a device since reset
abbrev Off : Enet → Type 0
Off d = d.registers.txtor ≡ 0 → d.counters.ticks ≡ 0

-- the time-out and the count are those of d
record SameCount (d e : Enet) : Type 0 where
  value : e.registers.txtor ≡ d.registers.txtor
  count : e.counters.ticks ≡ d.counters.ticks

same_off : (d e : Enet) → SameCount d e → Off d → Off e
same_off d e s o z = s.count ∙ o (sym s.value ∙ z)

-- ---- receiving leaves both

receive_off : (d e : Enet) → ReceiveOnly d e → Off d → Off e
receive_off d e r =
    same_off d e (record { value = ap (λ (x : Enet). x.registers.txtor) r.others; count = ap (λ (x : Enet). x.counters.ticks) r.others })

-- ---- sending leaves the time-out, and the count or 0

send_off : (d : Enet) (m out : List ℕ) → Off d → Off (send d m out).device
unfolding tx_advanced not_granted
send_off d m out o =
    by_send (λ s. Off s.device) d m out o o o o
    (by_test (λ e. Off d) d.registers.tx.polling d.registers.tx d.registers.tx (λ _. o) (λ _. o))
    o (λ _ _ _. refl)

sends_off : (left : ℕ) (d : Enet) (m out : List ℕ) → Off d → Off (sends left d m out).device
unfolding sends
sends_off zero d m out o = o
sends_off (suc left) d m out o =
    by_test (λ (r : Running). Off r.device) (eqb (send d m out).number 0) _ _
    (λ _. sends_off left _ _ _ (send_off d m out o))
    (λ _. send_off d m out o)

run_off : (d : Enet) (m out : List ℕ) (allowance : ℕ) → Off d → Off (run d m out allowance).device
unfolding run
run_off d m out allowance o =
    by_test (λ (r : Running). Off r.device) (ltb 4096 allowance) _ _ (λ _. o) (λ _. sends_off allowance d m out o)

-- ---- a register write

-- a register other than the time-out
abbrev other : Option Register → Bool
other (Some Ier) = true
other (Some Isr) = true
other (Some RxStart) = true
other (Some RxNext) = true
other (Some TxStart) = true
other (Some TxNext) = true
other (Some TxTimeout) = false
other (Some Mcr) = true
other (Some Mah) = true
other (Some Mal) = true
other (Some Mcha) = true
other (Some Mcla) = true
other None = true

other_at : (offset : ℕ) → eqb offset 0x48 ≡ false → other (register_at offset) ≡ true
unfolding register_at
other_at offset h =
    rw h (
    go (eqb offset 0x04) (Some Ier) _ refl (
    go (eqb offset 0x08) (Some Isr) _ refl (
    go (eqb offset 0x10) (Some RxStart) _ refl (
    go (eqb offset 0x1c) (Some RxNext) _ refl (
    go (eqb offset 0x30) (Some TxStart) _ refl (
    go (eqb offset 0x3c) (Some TxNext) _ refl (
    go (eqb offset 0x400) (Some Mcr) _ refl (
    go (eqb offset 0x404) (Some Mah) _ refl (
    go (eqb offset 0x408) (Some Mal) _ refl (
    go (eqb offset 0x40c) (Some Mcha) _ refl (
    go (eqb offset 0x410) (Some Mcla) _ refl refl)))))))))))
  where
    go : (t : Bool) (r s : Option Register) → other r ≡ true → other s ≡ true → other (if t then r else s) ≡ true
    go true r s p q = p
    go false r s p q = q

-- its write leaves the time-out
other_written : (a : Option Register) (r : Registers) (v : ℕ) → other a ≡ true → (written r a v).txtor ≡ r.txtor
other_written (Some Ier) r v h = refl
other_written (Some Isr) r v h = refl
other_written (Some RxStart) r v h = refl
other_written (Some RxNext) r v h = refl
other_written (Some TxStart) r v h = refl
other_written (Some TxNext) r v h = refl
other_written (Some TxTimeout) r v h = absurd (false≢true h)
other_written (Some Mcr) r v h = refl
other_written (Some Mah) r v h = refl
other_written (Some Mal) r v h = refl
other_written (Some Mcha) r v h = refl
other_written (Some Mcla) r v h = refl
other_written None r v h = refl

elsewhere_off : (d : Enet) (offset v : ℕ) → eqb offset 0x48 ≡ false → Off d → Off (wrote d offset (written d.registers (register_at offset) v))
unfolding after_write
elsewhere_off d offset v h o z = rw h (o (sym (other_written (register_at offset) d.registers v (other_at offset h)) ∙ z))

timeout_off : (d : Enet) (offset v : ℕ) → offset ≡ 0x48 → Off (wrote d offset (written d.registers (register_at offset) v))
unfolding register_at after_write
timeout_off d offset v h = rw h (λ z. rw (eq-eqb (kept (Some TxTimeout) v) 0 z))

write_off : (b : Bench) (offset value : ℕ) → Off b.device → Off (call b (register_write offset value)).bench.device
write_off b offset value o =
    by_write (λ a. Off a.device) b.device value o o offset
    (by_bool (eqb offset 0x48)
    (λ h. timeout_off b.device offset value (eqb-true offset 0x48 h))
    (λ h. elsewhere_off b.device offset value h o))

-- ---- a tick

tick_off : (d : Enet) (m : List ℕ) → Off d → Off (tick d m).device
unfolding tick plain.tick plain.counted
tick_off d m o =
    by_test (λ t. Off (of_ticked d t).device) (not (lent d.window m)) _ _ (λ _. o) (λ _.
    by_test (λ t. Off (of_ticked d t).device) (eqb d.registers.txtor 0) _ _ (λ _ _. refl) (λ n.
    by_test (λ t. Off (of_ticked d t).device) (stalled d.base d.window d.registers m) _ _
    (λ _. by_test (λ t. Off (of_ticked d t).device) (ltb d.registers.txtor (d.counters.ticks + 1)) _ _
    (λ _ _. refl)
    (λ _ z. absurd (eqb-false d.registers.txtor 0 n z)))
    (λ _ _. refl)))

-- ---- every call, and every list of calls

call_off : (b : Bench) (c : Call) → Off b.device → Off (call b c).bench.device
call_off b (looks look) o = o
call_off b (register_write offset value) o = write_off b offset value o
call_off b (grant_call address) o =
    by_grant (λ x. Off x.device) b.device b.memory address o o o o
call_off b (receive_call frame) o = receive_off b.device _ (changes_nowhere_else.calls b (receive_call frame)).device o
call_off b (burst_call store starts lengths answers) o =
    receive_off b.device _ (changes_nowhere_else.calls b (burst_call store starts lengths answers)).device o
call_off b (send_call output) o = send_off b.device b.memory output o
call_off b (step_run output allowance) o = run_off b.device b.memory output allowance o
call_off b tick_call o = tick_off b.device b.memory o

calls_off : (calls : List Lent) (d : Enet) → Off d → Off (after d calls)
unfolding after
calls_off [] d o = o
calls_off (l ∷ ls) d o = calls_off ls (next d l) (call_off (meets d l) l.call o)

pub off_is_zero : OffIsZero
off_is_zero base window calls =
    calls_off calls (new base window).device (by_new (λ a. Off a.device) base window (λ _. refl) (λ _. refl))
