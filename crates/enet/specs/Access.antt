-- 01, "Registers": register accesses and the interrupt line, of the device. They lend no memory. Assumes nothing.
use Rattle.std.specs.Prelude.{ℕ, Bool}
use Rattle.registers.specs.declared.Change.{Change}
use Rattle.registers.specs.Registers as registers
use Rattle.registers.specs.Access.{Found}
use Rattle.registers.specs.Access as access
use Rattle.register_write.specs.Write as register_write
use Rattle.ticking.specs.Tick.{after_write}
use Rattle.enet.specs.declared.Enet.{Enet}
use Rattle.enet.specs.declared.Answered.{Answered}
use Rattle.enet.specs.declared.Value.{Value}
use Rattle.enet.specs.Device.{with_registers, with_ticks}

abbrev pub of_found : Enet → Found → Value
of_found d f = record { number = f.number; value = f.value; device = d }

unfoldable pub read : Enet → ℕ → Value
read d offset = of_found d (access.read d.registers offset)

-- of the counters a write may clear the count of ticks (02, Wish 9), and leaves the others
abbrev pub of_change : Enet → ℕ → Change → Answered
of_change d offset c =
    let ticks = after_write c.number offset c.registers.txtor d.counters.ticks in
    record { number = c.number; device = with_ticks (with_registers d c.registers) ticks }

unfoldable pub write : Enet → ℕ → ℕ → Answered
write d offset v = of_change d offset (register_write.write d.registers offset v)

abbrev pub interrupt_line : Enet → Bool
interrupt_line d = registers.interrupt_line d.registers
