-- What holds of a call's every way out holds of the call: one law for each call without lent memory; `enet` has the others. Assumes nothing.
use Prim.Native.Nat.{ℕ}
use mathlib.Core.Path.{◌≡◌}
use mathlib.Core.Bool.{Bool, true, false, not}
use mathlib.Core.List.{List}
use borrow.Author.Tests.{not-false}
use Rattle.std.specs.Prelude.{if◌then◌else◌, Option, Some, None}
use Rattle.rules.proofs.Choices.{by_test}
use Rattle.window.specs.Window.{window_allowed, lent}
use Rattle.reading.specs.Reading.{shown, reading_number}
use Rattle.enet.specs.declared.Enet.{Enet}
use Rattle.enet.specs.declared.Answered.{Answered}
use Rattle.enet.specs.declared.Value.{Value}
use Rattle.registers.specs.declared.Register.{Register}
use Rattle.registers.specs.declared.Register.TheVariants.{Ier, Isr, RxStart, RxNext, TxStart, TxNext, TxTimeout, Mcr, Mah, Mal, Mcha, Mcla}
use Rattle.registers.specs.Access.{register_at, read_number, value_of}
use Rattle.registers.specs.Registers as registers
use Rattle.registers.specs.Access as access
use Rattle.register_write.specs.Write as register_write_lem
use Rattle.registers.specs.declared.Registers.{Registers}
use Rattle.counters.specs.Counters as counters
use Rattle.ticking.specs.Tick.{after_write}
use Rattle.enet.specs.Device.{made, with_registers, with_ticks, reset, new}
use Rattle.enet.specs.Access.{read, of_change, write}
use Rattle.register_write.specs.Write.{written, write_number, written_by}

pub by_new : (P : Answered → Type 0) (base window : ℕ)
    → P (record { number = 0; device = made base window registers.reset counters.reset }) → P (record { number = 1; device = reset }) → P (new base window)
unfolding new
by_new P base window r0 r1 = by_test P (window_allowed base window) _ _ (λ _. r0) (λ _. r1)

-- ---- registers

register_read_lem : (P : Value → Type 0) (d : Enet) (r : Option Register)
    → P (record { number = 2; value = 0; device = d }) → P (record { number = 0; value = value_of d.registers r; device = d })
    → P (record { number = read_number r; value = value_of d.registers r; device = d })
register_read_lem P d (Some _) r2 r0 = r0
register_read_lem P d None r2 r0 = r2

pub by_read : (P : Value → Type 0) (d : Enet) (offset : ℕ)
    → P (record { number = 2; value = 0; device = d }) → P (record { number = 0; value = value_of d.registers (register_at offset); device = d })
    → P (read d offset)
unfolding read access.read
by_read P d offset = register_read_lem P d (register_at offset)

-- the device after a write that answers 0, which leaves these registers
abbrev pub wrote : Enet → ℕ → Registers → Enet
wrote d offset r = with_ticks (with_registers d r) (after_write 0 offset r.txtor d.counters.ticks)

module _ (P : Answered → Type 0) (d : Enet) (v : ℕ)
    (r2 : P (record { number = 2; device = d })) (r15 : P (record { number = 15; device = d })) (offset : ℕ) where
  -- the way out by a number, for a register that is written
  way : ℕ → Option Register → Answered
  way n r = of_change d offset (written_by d.registers r v n)

  running : (r : Option Register) (t : Bool) → P (record { number = 0; device = wrote d offset (written d.registers r v) }) → P (way (if t then 15 else 0) r)
  unfolding way after_write
  running r true r0 = r15
  running r false r0 = r0

  by_register : (r : Option Register) → P (record { number = 0; device = wrote d offset (written d.registers r v) })
      → P (way (write_number d.registers.rx.running d.registers.tx.running r) r)
  unfolding way after_write
  by_register (Some Ier) r0 = r0
  by_register (Some Isr) r0 = r0
  by_register (Some RxStart) r0 = r0
  by_register (Some RxNext) r0 = running (Some RxNext) d.registers.rx.running r0
  by_register (Some TxStart) r0 = r0
  by_register (Some TxNext) r0 = running (Some TxNext) d.registers.tx.running r0
  by_register (Some TxTimeout) r0 = r0
  by_register (Some Mcr) r0 = r0
  by_register (Some Mah) r0 = r0
  by_register (Some Mal) r0 = r0
  by_register (Some Mcha) r0 = r0
  by_register (Some Mcla) r0 = r0
  by_register None r0 = r2

  pub by_write : P (record { number = 0; device = wrote d offset (written d.registers (register_at offset) v) }) → P (write d offset v)
  unfolding write register_write_lem.write way
  by_write = by_register (register_at offset)

-- ---- reading

pub by_reading : (P : ℕ → Type 0) (base window : ℕ) (m : List ℕ) (address : ℕ) → P 11 → P 13
    → (lent window m ≡ true → shown base window m address ≡ true → P 0) → P (reading_number base window m address)
unfolding reading_number
by_reading P base window m address r11 r13 r0 =
    by_test P (not (lent window m)) _ _ (λ _. r11) (λ l.
    by_test P (not (shown base window m address)) _ _ (λ _. r13) (λ s. r0 (not-false _ l) (not-false _ s)))
