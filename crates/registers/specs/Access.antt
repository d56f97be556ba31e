-- 01, "Registers": which register stands at an offset, and a register read. Offsets are those of chapter 8
-- (docs/REGISTERS.md). Assumes nothing.
use Rattle.std.specs.Prelude.{ℕ, eqb, Option, Some, None, Result}
use Rattle.std.specs.Prelude.{if◌then◌else◌}
use Rattle.std.specs.Result.{result_unwrap_or}
use Rattle.answer.specs.declared.Refusal.{Refusal}
use Rattle.answer.specs.Refusals.{number_of}
use Rattle.registers.specs.declared.Registers.{Registers}
use Rattle.registers.specs.declared.Register.{Register}
use Rattle.registers.specs.declared.Register.TheVariants.{Ier, Isr, RxStart, RxNext, TxStart, TxNext, TxTimeout, Mcr, Mah, Mal, Mcha, Mcla}

-- "Modelled: interrupt status and enable, receive and send start, receive and send next descriptor, MAC control, MAC
-- address high and low": by offset. 02, of the hash registers: "these registers leave row 2's reach"; Wish 9: "ENET_TXTOR
-- (offset 48h) joins the modelled registers"
unfoldable pub register_at : ℕ → Option Register
register_at offset =
    if eqb offset 0x04 then Some Ier else
    if eqb offset 0x08 then Some Isr else
    if eqb offset 0x10 then Some RxStart else
    if eqb offset 0x1c then Some RxNext else
    if eqb offset 0x30 then Some TxStart else
    if eqb offset 0x3c then Some TxNext else
    if eqb offset 0x48 then Some TxTimeout else
    if eqb offset 0x400 then Some Mcr else
    if eqb offset 0x404 then Some Mah else
    if eqb offset 0x408 then Some Mal else
    if eqb offset 0x40c then Some Mcha else
    if eqb offset 0x410 then Some Mcla else
    None

-- what a register reads as
abbrev pub value_of : Registers → Option Register → ℕ
value_of r (Some Ier) = r.ier
value_of r (Some Isr) = r.isr
value_of r (Some RxStart) = r.rx.start
value_of r (Some RxNext) = r.rx.next
value_of r (Some TxStart) = r.tx.start
value_of r (Some TxNext) = r.tx.next
value_of r (Some TxTimeout) = r.txtor
value_of r (Some Mcr) = r.filter.mcr
value_of r (Some Mah) = r.filter.mah
value_of r (Some Mal) = r.filter.mal
value_of r (Some Mcha) = r.filter.mcha
value_of r (Some Mcla) = r.filter.mcla
value_of r None = 0

-- row 2, register not modelled: "value 0, nothing changed"
abbrev pub read_number : Option Register → ℕ
read_number (Some _) = 0
read_number None = 2

-- what a read finds: its number, and the value
pub record Found : Type 0 where
  pub number : ℕ
  pub value : ℕ

unfoldable pub read : Registers → ℕ → Found
read r offset = record { number = read_number (register_at offset); value = value_of r (register_at offset) }

-- what the code's answer says: the value read, or why none is, and then 0
abbrev pub found : Result ℕ Refusal → Found
found answer = record { number = number_of answer; value = result_unwrap_or answer 0 }
