-- 02, Wish 8: a register of a controller written. Assumes nothing.
use Rattle.std.specs.Prelude.{ℕ, ◌-◌, ◌%◌, ◌^◌, Bool, Option, Some, None, List, eqb, set}
use Rattle.std.specs.Int.Bits.{bit_and, bit_or}
use Rattle.vic_controller.specs.declared.Controller.{Controller}
use Rattle.vic_registers.specs.declared.Register.{Register}
use Rattle.vic_registers.specs.declared.Register.TheVariants.{
  IrqStatus,
  FiqStatus,
  RawStatus,
  Selection,
  Enable,
  EnableClear,
  Software,
  SoftwareClear,
  Protection,
  DefaultVector,
  Address,
  Control,
}
use Rattle.vic_controller.specs.Controller.{made}

-- ---- one part changed, the others kept

abbrev pub with_software : Controller → ℕ → Controller
with_software c v = made v c.enable c.selection c.protection c.default c.addresses c.controls

abbrev pub with_enable : Controller → ℕ → Controller
with_enable c v = made c.software v c.selection c.protection c.default c.addresses c.controls

abbrev pub with_selection : Controller → ℕ → Controller
with_selection c v = made c.software c.enable v c.protection c.default c.addresses c.controls

abbrev pub with_protection : Controller → Bool → Controller
with_protection c b = made c.software c.enable c.selection b c.default c.addresses c.controls

abbrev pub with_default : Controller → ℕ → Controller
with_default c v = made c.software c.enable c.selection c.protection v c.addresses c.controls

abbrev pub with_addresses : Controller → List ℕ → Controller
with_addresses c l = made c.software c.enable c.selection c.protection c.default l c.controls

abbrev pub with_controls : Controller → List ℕ → Controller
with_controls c l = made c.software c.enable c.selection c.protection c.default c.addresses l

-- ---- what a write keeps of its value

-- Table 14, of the registers with a bit for each input: bits 31 to 16 are "Reserved"
abbrev pub low_half : ℕ → ℕ
low_half v = v % 2 ^ 16

-- 4.10.5 and 4.10.7, rs: "Writing 0 has no effect."; 4.10.7: "Writing 1 sets the corresponding register bit."
abbrev pub bits_set : ℕ → ℕ → ℕ
bits_set old v = bit_or old (low_half v)

-- 4.10.6 and 4.10.8: "Writing 1 clears the corresponding bit .. Writing 0 has no effect."
abbrev pub bits_cleared : ℕ → ℕ → ℕ
bits_cleared old v = bit_and old (2 ^ 16 - 1 - low_half v)

-- 4.10.13: bit 5 enables, bits 3 to 0 name the input; 15 to 6 are "Reserved, forced by hardware to 0", 4 is "Reserved, always read
-- as 0"
abbrev pub control_kept : ℕ → ℕ
control_kept v = bit_and v 0x2f

-- ---- a register written

-- 01: "A write to a read-only bit is accepted and does nothing"
abbrev pub written : Controller → Option Register → ℕ → Controller
written c (Some IrqStatus) v = c
written c (Some FiqStatus) v = c
written c (Some RawStatus) v = c
written c (Some Selection) v = with_selection c (low_half v)
written c (Some Enable) v = with_enable c (bits_set c.enable v)
written c (Some EnableClear) v = with_enable c (bits_cleared c.enable v)
written c (Some Software) v = with_software c (bits_set c.software v)
written c (Some SoftwareClear) v = with_software c (bits_cleared c.software v)
written c (Some Protection) v = with_protection c (eqb (v % 2) 1)
written c (Some DefaultVector) v = with_default c v
written c (Some (Address slot)) v = with_addresses c (set c.addresses slot v)
written c (Some (Control slot)) v = with_controls c (set c.controls slot (control_kept v))
written c None v = c
