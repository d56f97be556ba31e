-- The two ways out of the frame check: a call's yes is 1, its no is 0. Assumes nothing.
use mathlib.Core.Path.{◌≡◌, refl}
use mathlib.Core.Bool.{Bool, true, false}
use Prim.Native.Nat.{ℕ}
use Rattle.std.specs.Prelude.{if◌then◌else◌}
use Rattle.rules.proofs.Choices.{if_yes, if_no, said}

module _ (s r : Bool) (e : r ≡ s) where
  pub yes_1 : r ≡ true → ◌≡◌ {A = ℕ} 1 (if s then 1 else 0)
  yes_1 h = if_yes s 1 1 0 (said s r true e h) refl

  pub no_0 : r ≡ false → ◌≡◌ {A = ℕ} 0 (if s then 1 else 0)
  no_0 h = if_no s 0 1 0 (said s r false e h) refl
