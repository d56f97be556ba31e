-- 02, Wish 8: every list of accesses to the interrupt controllers. The IRQ answer and FIQ are asked without an access, and leave no
-- next state. Assumes nothing.
use Rattle.std.specs.Prelude.{ℕ, List, [], ◌∷◌}
use Rattle.vic_pair.specs.declared.Vics.{Vics}
use Rattle.vic_pair.specs.declared.Inputs.{Inputs}
use Rattle.vic_pair.specs.declared.Which.{Which}
use Rattle.vic.specs.Access.{read, write}

-- a register read, with the levels of the inputs then, and a register write, each refused or not
pub data Access : Type 0 where
  reads : Inputs → Which → ℕ → Access
  writes : Which → ℕ → ℕ → Access

-- the pair that an access leaves
abbrev pub after : Vics → Access → Vics
after v (reads i w offset) = (read v i w offset).vics
after v (writes w offset value) = (write v w offset value).vics

abbrev pub after_all : Vics → List Access → Vics
after_all v [] = v
after_all v (a ∷ l) = after_all (after v a) l
