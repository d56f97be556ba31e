-- 02, Wish 8: "the two vectored controllers of RM0006 chapter 4" as a pair: their state and reset, their inputs with ENET's line among
-- them, and FIQ. Assumes nothing.
use Rattle.std.specs.Prelude.{ℕ, ◌-◌, ◌^◌, Bool, not, ◌||◌, List, eqb}
use Rattle.std.specs.Int.Bits.{bit_and, bit_or}
use Rattle.std.specs.Prelude.{if◌then◌else◌}
use Rattle.vic_controller.specs.declared.Controller.{Controller}
use Rattle.vic_controller.specs.Controller.{reset as reset_controller, fiq_status}
use Rattle.vic_service.specs.Service.{idle}
use Rattle.vic_pair.specs.declared.Vics.{Vics}
use Rattle.vic_pair.specs.declared.Inputs.{Inputs}

-- both controllers, and what is in service
abbrev pub made : Controller → Controller → List Bool → Vics
made vic0 vic1 service = record { vic0 = vic0; vic1 = vic1; service = service }

-- the reset state: nothing is in service
abbrev pub reset : Vics
reset = made reset_controller reset_controller idle

-- ---- the inputs

-- the levels of the sixteen inputs of each controller, input n at bit n. 4.2: "active high, level sensitive"
abbrev pub levels : ℕ → ℕ → Inputs
levels vic0 vic1 = record { vic0 = vic0; vic1 = vic1 }

abbrev pub low : Inputs
low = levels 0 0

-- "ENET's line enters at the input that chapter 4 names": Table 13, "VIC0.11 Ethernet MAC"
abbrev pub enet_input : ℕ
enet_input = 2 ^ 11

-- the inputs with ENET's line in its place, whatever stood there
unfoldable pub with_line : Inputs → Bool → Inputs
with_line i line =
    levels (if line then bit_or i.vic0 enet_input else bit_and i.vic0 (2 ^ 16 - 1 - enet_input)) i.vic1

-- ---- FIQ

-- "FIQ is high exactly if a raised, enabled request is selected for it", in either controller
unfoldable pub fiq : Vics → Inputs → Bool
fiq v i = not (eqb (fiq_status v.vic0 i.vic0) 0) || not (eqb (fiq_status v.vic1 i.vic1) 0)
