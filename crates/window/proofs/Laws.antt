-- What lies in the window, as a fact. Assumes nothing.
use mathlib.Core.Path.{◌≡◌}
use mathlib.Core.Bool.{true}
use Prim.Native.Nat.{ℕ, ◌+◌, ◌≤◌}
use lib.Dec.{leb}
use borrow.Author.Tests.{le-leb, leb-true}
use Rattle.rules.proofs.Choices.{and_parts}
use Rattle.window.specs.Window.{in_window}

module _ (base window address n : ℕ) where
  -- the test, and the fact
  pub in_window_lem : in_window base window address n ≡ true → (base ≤ address) × (address + n ≤ base + window)
  unfolding in_window
  in_window_lem e =
      let p = and_parts (leb base address) (leb (address + n) (base + window)) e in
      (leb-true base address p.0, leb-true (address + n) (base + window) p.1)

  pub inside_yes : base ≤ address → address + n ≤ base + window → in_window base window address n ≡ true
  unfolding in_window
  inside_yes l h = rw (le-leb base address l, le-leb (address + n) (base + window) h)
