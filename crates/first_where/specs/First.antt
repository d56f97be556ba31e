-- The first place of a list at which a test holds. Assumes nothing.
use Rattle.std.specs.Prelude.{ℕ, suc, Bool, List, [], ◌∷◌}
use Rattle.std.specs.Prelude.{if◌then◌else◌}

-- the first place at which a test holds, and the list's length where it holds at none
unfoldable pub first_where : {A : Type 0} → (A → Bool) → List A → ℕ
first_where t [] = 0
first_where t (a ∷ l) = if t a then 0 else suc (first_where t l)
