-- The bench, and the turns of a loop of rounds. Assumes nothing.
use Prim.Native.Nat.{ℕ, zero, suc, ◌+◌, ◌-◌, ◌≤◌, ◌<◌}
use mathlib.Core.Path.{◌≡◌, refl}
use mathlib.Core.List.{List}
use native.Mathlib.Omega.{arith}
use Rattle.enet.specs.declared.Enet.{Enet}
use Rattle.enet.specs.declared.Answered.{Answered}
use Rattle.enet.specs.Device.{Outcome, outcome, new}
use Rattle.enet.specs.Access.{write}
use Rattle.timing.specs.Timing.{waiting, bench, passed, received, rounds}

pub waiting_is : (w : ℕ) (n a b c d : Answered) → n ≡ new 0 w → a ≡ write n.device 0x404 0x100 → b ≡ write a.device 0x408 2
    → c ≡ write b.device 0x1c 1 → d ≡ write c.device 0x3c 1 → d.device ≡ waiting w
unfolding waiting
waiting_is w n a b c d e₀ e₁ e₂ e₃ e₄ = rw (e₄, e₃, e₂, e₁, e₀)

pub bench_is : (w : ℕ) (s : Enet) (a b : Answered) → s ≡ waiting w → a ≡ write s 0x10 5 → b ≡ write a.device 0x30 5 → b.device ≡ bench w
unfolding bench
bench_is w s a b e₀ e₁ e₂ = rw (e₂, e₁, e₀)

module _ (step : Enet → List ℕ → Outcome) where
  pub rounds_turn : (left taken p : ℕ) (d : Enet) (m : List ℕ) (a : Answered) (m' : List ℕ) → 0 < left → outcome a m' ≡ step d m
      → p ≡ passed a.number → rounds step (left - 1) (taken + p) a.device m' ≡ rounds step left taken d m
  unfolding rounds
  rounds_turn zero taken p d m a m' h e q = absurd (omega arith)
  rounds_turn (suc left) taken p d m a m' h e q = let k : suc left - 1 ≡ left = omega arith in rw (k, ← e, q)

  pub rounds_end : (left taken : ℕ) (d : Enet) (m : List ℕ) → left ≤ 0 → rounds step left taken d m ≡ received taken m
  unfolding rounds
  rounds_end zero taken d m h = refl
  rounds_end (suc left) taken d m h = absurd (omega arith)
