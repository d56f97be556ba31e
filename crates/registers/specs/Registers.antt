-- 01, "Registers": the registers and the two engines, their reset state, and changes of one part of them. Reset values and
-- status bits are those of chapter 8 (docs/REGISTERS.md). Assumes nothing.
use Rattle.std.specs.Prelude.{ℕ, Bool, not, eqb}
use Rattle.std.specs.Int.Bits.{bit_and, bit_or}
use Rattle.filter.specs.declared.Filter.{Filter}
use Rattle.filter.specs.Filter.{filter_of}
use Rattle.engine.specs.declared.Engine.{Engine}
use Rattle.engine.specs.Engine.{engine_reset}
use Rattle.registers.specs.declared.Registers.{Registers}

-- ---- one part changed, the others kept

-- the registers, part by part: every change below is made by it
abbrev pub made : ℕ → ℕ → Filter → Engine → Engine → ℕ → Registers
made isr ier filter rx tx txtor = record { isr = isr; ier = ier; filter = filter; rx = rx; tx = tx; txtor = txtor }

abbrev pub with_status : Registers → ℕ → Registers
with_status r v = made v r.ier r.filter r.rx r.tx r.txtor

abbrev pub with_enable : Registers → ℕ → Registers
with_enable r v = made r.isr v r.filter r.rx r.tx r.txtor

abbrev pub with_filter : Registers → Filter → Registers
with_filter r f = made r.isr r.ier f r.rx r.tx r.txtor

abbrev pub with_rx : Registers → Engine → Registers
with_rx r e = made r.isr r.ier r.filter e r.tx r.txtor

abbrev pub with_tx : Registers → Engine → Registers
with_tx r e = made r.isr r.ier r.filter r.rx e r.txtor

-- the send time-out (02, Wish 9)
abbrev pub with_txtor : Registers → ℕ → Registers
with_txtor r v = made r.isr r.ier r.filter r.rx r.tx v

-- ---- reset

-- "Offsets, reset values and read-only bits are those of chapter 8"
abbrev pub reset : Registers
reset = made 0x0005_0001 0 (filter_of 0 0x0000_ffff 0xffff_ffff 0 0) (engine_reset 0 0) (engine_reset 0 0) 0

-- ---- the status bits that the base raises, as chapter 8 numbers them

abbrev pub tx_curr_done : ℕ
tx_curr_done = 0x8000_0000

abbrev pub tx_done : ℕ
tx_done = 0x0080_0000

abbrev pub rx_curr_done : ℕ
rx_curr_done = 0x0000_8000

abbrev pub rx_done : ℕ
rx_done = 0x0000_0080

abbrev pub packet_lost : ℕ
packet_lost = 0x0000_0020

-- and the one that a tick raises (02, Wish 9): "the RX_TO in its text is a slip for TX_TO"
abbrev pub tx_to : ℕ
tx_to = 0x0008_0000

-- a status bit set; one that is set stays set
abbrev pub raised : Registers → ℕ → Registers
raised r mask = with_status r (bit_or r.isr mask)

-- ---- the interrupt line

-- "The interrupt line is high exactly if some status bit is set whose enable bit is set."
unfoldable pub interrupt_line : Registers → Bool
interrupt_line r = not (eqb (bit_and r.isr r.ier) 0)
