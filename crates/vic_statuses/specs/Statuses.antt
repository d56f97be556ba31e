-- 02, Wish 8: what the status words say of an input, and when FIQ is high. Assumes nothing.
use Rattle.std.specs.Prelude.{ℕ, ◌^◌, ◌<◌, ◌≡◌, Bool, true, not, ◌&&◌, ◌||◌}
use Rattle.rules.specs.Bit.{bit}
use Rattle.vic_controller.specs.declared.Controller.{Controller}
use Rattle.vic_controller.specs.Controller.{irq_status, fiq_status}
use Rattle.vic_pair.specs.declared.Vics.{Vics}
use Rattle.vic_pair.specs.declared.Inputs.{Inputs}
use Rattle.vic_pair.specs.declared.Which.{Which}
use Rattle.vic_pair.specs.Vics.{fiq}
use Rattle.vic.specs.Access.{controller_of, levels_of}

-- "raised, enabled": input n is high, or its software interrupt is set, and it is enabled
abbrev pub raised_enabled : Controller → ℕ → ℕ → Bool
raised_enabled c inputs n = (bit n inputs || bit n c.software) && bit n c.enable

-- an input's bit of a status word: the request is raised, enabled, and selected for it. The selection is 16 bits wide, as the code's is
pub record StatusExactly : Type 0 where
  pub of_irq : (c : Controller) → c.selection < 2 ^ 16 → (inputs n : ℕ) → n < 16
      → bit n (irq_status c inputs) ≡ (raised_enabled c inputs n && not (bit n c.selection))
  pub of_fiq : (c : Controller) (inputs n : ℕ) → bit n (fiq_status c inputs) ≡ (raised_enabled c inputs n && bit n c.selection)

-- a request that is raised, enabled and selected for FIQ
pub record Selected (v : Vics) (i : Inputs) (w : Which) (n : ℕ) : Type 0 where
  pub input : n < 16
  pub raised : (raised_enabled (controller_of v w) (levels_of i w) n && bit n (controller_of v w).selection) ≡ true

pub record SomeSelected (v : Vics) (i : Inputs) : Type 0 where
  pub which : Which
  pub input : ℕ
  pub selected : Selected v i which input

-- "FIQ is high exactly if a raised, enabled request is selected for it"
pub record FiqExactly : Type 0 where
  pub high : (v : Vics) (i : Inputs) (w : Which) (n : ℕ) → Selected v i w n → fiq v i ≡ true
  pub only : (v : Vics) → ((w : Which) → (controller_of v w).selection < 2 ^ 16) → (i : Inputs) → fiq v i ≡ true → SomeSelected v i
