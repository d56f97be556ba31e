-- 02, Wish 8: which register of a controller stands at an offset, and what it reads as. Offsets are those of chapter 4
-- (docs/REGISTERS.md). Assumes nothing.
use Rattle.std.specs.Prelude.{ℕ, ◌+◌, ◌-◌, ◌/◌, ◌%◌, Bool, Option, Some, None, ◌&&◌, eqb, ltb, leb, get_or}
use Rattle.std.specs.Prelude.{if◌then◌else◌}
use Rattle.vic_controller.specs.declared.Controller.{Controller}
use Rattle.vic_registers.specs.declared.Register.{Register}
use Rattle.vic_registers.specs.declared.Register.TheVariants.{
  IrqStatus,
  FiqStatus,
  RawStatus,
  Selection,
  Enable,
  EnableClear,
  Software,
  SoftwareClear,
  Protection,
  DefaultVector,
  Address,
  Control,
}
use Rattle.vic_controller.specs.Controller.{raw_status, irq_status, fiq_status}

-- the offset of a register that each of the sixteen slots has, slot 0 at `first`, each slot 4 further (Table 14), and its slot
unfoldable pub slot_at : ℕ → ℕ → Bool
slot_at first offset = leb first offset && (ltb offset (first + 64) && eqb (offset % 4) 0)

unfoldable pub slot_of : ℕ → ℕ → ℕ
slot_of first offset = (offset - first) / 4

-- Table 14, but for 030h, the current vector address: what a read or a write of it does goes by both controllers
unfoldable pub register_at : ℕ → Option Register
register_at offset =
    if slot_at 0x100 offset then Some (Address (slot_of 0x100 offset)) else
    if slot_at 0x200 offset then Some (Control (slot_of 0x200 offset)) else
    if eqb offset 0x000 then Some IrqStatus else
    if eqb offset 0x004 then Some FiqStatus else
    if eqb offset 0x008 then Some RawStatus else
    if eqb offset 0x00c then Some Selection else
    if eqb offset 0x010 then Some Enable else
    if eqb offset 0x014 then Some EnableClear else
    if eqb offset 0x018 then Some Software else
    if eqb offset 0x01c then Some SoftwareClear else
    if eqb offset 0x020 then Some Protection else
    if eqb offset 0x034 then Some DefaultVector else
    None

-- 01, row 2, register not modelled: "value 0, nothing changed"; a read and a write have no other refusal
abbrev pub access_number : Option Register → ℕ
access_number (Some register) = 0
access_number None = 2

-- what a register reads as, with the levels of the inputs. 4.10, of a register that can only be written: "Reading the bit returns the
-- reset value", which 4.10.6 and 4.10.8 leave undefined: 0 here (docs/DECISIONS.md, D119)
abbrev pub value_of : Controller → ℕ → Option Register → ℕ
value_of c inputs (Some IrqStatus) = irq_status c inputs
value_of c inputs (Some FiqStatus) = fiq_status c inputs
value_of c inputs (Some RawStatus) = raw_status c inputs
value_of c inputs (Some Selection) = c.selection
value_of c inputs (Some Enable) = c.enable
value_of c inputs (Some EnableClear) = 0
value_of c inputs (Some Software) = c.software
value_of c inputs (Some SoftwareClear) = 0
value_of c inputs (Some Protection) = if c.protection then 1 else 0
value_of c inputs (Some DefaultVector) = c.default
value_of c inputs (Some (Address slot)) = get_or c.addresses slot 0
value_of c inputs (Some (Control slot)) = get_or c.controls slot 0
value_of c inputs None = 0
