-- 02, Wish 8, with 01's row 2, register not modelled: "value 0, nothing changed". Assumes nothing.
use Rattle.std.specs.Prelude.{ℕ, ◌≡◌, ◌⊎◌}
use Rattle.vic_pair.specs.declared.Vics.{Vics}
use Rattle.vic_pair.specs.declared.Inputs.{Inputs}
use Rattle.vic_pair.specs.declared.Which.{Which}
use Rattle.vic.specs.Access.{read, write}

-- the numbers that an access gives, and what 2 leaves
pub record RefusedLeaves : Type 0 where
  pub read_number : (v : Vics) (i : Inputs) (w : Which) (offset : ℕ) → ((read v i w offset).number ≡ 0) ⊎ ((read v i w offset).number ≡ 2)
  pub write_number : (v : Vics) (w : Which) (offset value : ℕ) → ((write v w offset value).number ≡ 0) ⊎ ((write v w offset value).number ≡ 2)
  pub read_value : (v : Vics) (i : Inputs) (w : Which) (offset : ℕ) → (read v i w offset).number ≡ 2 → (read v i w offset).value ≡ 0
  pub read_leaves : (v : Vics) (i : Inputs) (w : Which) (offset : ℕ) → (read v i w offset).number ≡ 2 → (read v i w offset).vics ≡ v
  pub write_leaves : (v : Vics) (w : Which) (offset value : ℕ) → (write v w offset value).number ≡ 2 → (write v w offset value).vics ≡ v
