-- A tick by its ways out. Assumes nothing.
use Prim.Native.Nat.{ℕ, ◌+◌}
use mathlib.Core.Bool.{not}
use mathlib.Core.List.{List}
use lib.Dec.{eqb, ltb}
use Rattle.rules.proofs.Choices.{by_test}
use Rattle.window.specs.Window.{lent}
use Rattle.registers.specs.declared.Registers.{Registers}
use Rattle.registers.specs.Registers.{raised, tx_to}
use Rattle.ticking.specs.declared.Ticked.{Ticked}
use Rattle.ticking.specs.Tick.{leaves, stalled, counted, tick}

-- what holds of every way out of a tick holds of it
pub by_tick : (P : Ticked → Type 0) (base window : ℕ) (r : Registers) (n : ℕ) (m : List ℕ)
    → P (leaves 11 r n) → P (leaves 0 r 0) → P (leaves 0 (raised r tx_to) 0) → P (leaves 0 r (n + 1))
    → P (tick base window r n m)
unfolding tick counted
by_tick P base window r n m r11 clears fires counts =
    by_test P (not (lent window m)) _ _ (λ _. r11) (λ _.
    by_test P (eqb r.txtor 0) _ _ (λ _. clears) (λ _.
    by_test P (stalled base window r m) _ _ (λ _. by_test P (ltb r.txtor (n + 1)) _ _ (λ _. fires) (λ _. counts)) (λ _. clears)))
