-- 02, Wish 8: one of "the two vectored controllers of RM0006 chapter 4": its registers, their reset, and its status words. Bits and
-- reset values are those of chapter 4 (docs/REGISTERS.md); a bit for each of the sixteen inputs, input n at bit n. Assumes nothing.
use Rattle.std.specs.Prelude.{ℕ, ◌-◌, ◌^◌, Bool, false, List, replicate}
use Rattle.std.specs.Int.Bits.{bit_and, bit_or}
use Rattle.vic_controller.specs.declared.Controller.{Controller}

-- a controller, part by part: every change is made by it
abbrev pub made : ℕ → ℕ → ℕ → Bool → ℕ → List ℕ → List ℕ → Controller
made software enable selection protection default addresses controls =
    record {
      software = software;
      enable = enable;
      selection = selection;
      protection = protection;
      default = default;
      addresses = addresses;
      controls = controls;
    }

-- 4.10.4, 4.10.5, 4.10.7, 4.10.9, 4.10.11 to 4.10.13, "Reset value: 0000 0000 0000 0000", and sixteen slots
abbrev pub reset : Controller
reset = made 0 0 0 false 0 (replicate 16 0) (replicate 16 0)

-- 4.10.3: "the status of the interrupt sources (and software interrupts)"; the sources are levels, given with each call
abbrev pub raw_status : Controller → ℕ → ℕ
raw_status c inputs = bit_or inputs c.software

-- the requests that are raised and enabled: 4.10.5, "0: Interrupt disabled (masked)"
abbrev pub enabled_status : Controller → ℕ → ℕ
enabled_status c inputs = bit_and (raw_status c inputs) c.enable

-- 4.10.1: "set by hardware after masking by the VICx_INTER and VICx_INTSR registers"; 4.10.4, "0: IRQ"
abbrev pub irq_status : Controller → ℕ → ℕ
irq_status c inputs = bit_and (enabled_status c inputs) (2 ^ 16 - 1 - c.selection)

-- 4.10.2, in the same words; 4.10.4, "1: FIQ"
abbrev pub fiq_status : Controller → ℕ → ℕ
fiq_status c inputs = bit_and (enabled_status c inputs) c.selection
