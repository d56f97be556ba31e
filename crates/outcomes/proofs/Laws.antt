-- What each function leaves, as laws of its definition. Assumes nothing.
use mathlib.Core.Path.{◌≡◌}
use mathlib.Core.Bool.{Bool, true, false}
use mathlib.Core.Logic.{◌⊎◌, inl, inr}
use Prim.Native.Nat.{ℕ}
use native.Mathlib.Omega.{arith}
use borrow.Author.Tests.{eq-eqb, ne_eqb}
use Rattle.engine.specs.declared.Engine.{Engine}
use Rattle.engine.specs.Engine.{stopped, led_to, not_granted}
use Rattle.registers.specs.declared.Registers.{Registers}
use Rattle.registers.specs.Registers.{with_rx, with_tx, raised, rx_curr_done, rx_done, packet_lost, tx_curr_done, tx_done}
use Rattle.outcomes.specs.Outcomes.{rx_refused, rx_advanced, tx_refused, tx_advanced}

-- ---- a refusal

module _ (n : ℕ) (r : Registers) where
  pub rx_fault_stops : n ≡ 7 → (e : Engine) → e ≡ stopped r.rx → with_rx r e ≡ rx_refused n r
  unfolding rx_refused
  rx_fault_stops z e q = rw (eq-eqb n 7 z, q)

  pub rx_not_granted_lem : n ≡ 8 → (e : Engine) → e ≡ not_granted r.rx → with_rx (raised r packet_lost) e ≡ rx_refused n r
  unfolding rx_refused
  rx_not_granted_lem z e q = rw (ne_eqb n 7 (λ s. omega arith), eq-eqb n 8 z, q)

  pub rx_others_keep : (n ≡ 7 → ⊥) → (n ≡ 8 → ⊥) → r ≡ rx_refused n r
  unfolding rx_refused
  rx_others_keep a b = rw (ne_eqb n 7 a, ne_eqb n 8 b)

  pub tx_stops : (n ≡ 7) ⊎ (n ≡ 12) → (e : Engine) → e ≡ stopped r.tx → with_tx r e ≡ tx_refused n r
  unfolding tx_refused
  tx_stops (inl z) e q = rw (eq-eqb n 7 z, q)
  tx_stops (inr z) e q = rw (ne_eqb n 7 (λ s. omega arith), ne_eqb n 8 (λ s. omega arith), eq-eqb n 12 z, q)

  pub tx_not_granted_lem : n ≡ 8 → (e : Engine) → e ≡ not_granted r.tx → with_tx r e ≡ tx_refused n r
  unfolding tx_refused
  tx_not_granted_lem z e q = rw (ne_eqb n 7 (λ s. omega arith), eq-eqb n 8 z, q)

  pub tx_others_keep : ((n ≡ 7) ⊎ (n ≡ 12) → ⊥) → (n ≡ 8 → ⊥) → r ≡ tx_refused n r
  unfolding tx_refused
  tx_others_keep a b = rw (ne_eqb n 7 (λ z. a (inl z)), ne_eqb n 8 b, ne_eqb n 12 (λ z. a (inr z)))

pub ruleset rx_refused_ways = (rx_fault_stops, rx_not_granted_lem, rx_others_keep)

pub ruleset tx_refused_ways = (tx_stops, tx_not_granted_lem, tx_others_keep)

-- ---- a delivery, and a send

module _ (r : Registers) (linked : Bool) (w : ℕ) where
  pub rx_moves : linked ≡ true → (e : Engine) → e ≡ led_to r.rx w → with_rx (raised r rx_curr_done) e ≡ rx_advanced r linked w
  unfolding rx_advanced
  rx_moves t e q = rw (t, q)

  pub rx_ends : linked ≡ false → (e : Engine) → e ≡ stopped r.rx → with_rx (raised (raised r rx_curr_done) rx_done) e ≡ rx_advanced r linked w
  unfolding rx_advanced
  rx_ends t e q = rw (t, q)

  pub tx_moves : linked ≡ true → (e : Engine) → e ≡ led_to r.tx w → with_tx (raised r tx_curr_done) e ≡ tx_advanced r linked w
  unfolding tx_advanced
  tx_moves t e q = rw (t, q)

  pub tx_ends : linked ≡ false → (e : Engine) → e ≡ stopped r.tx → with_tx (raised (raised r tx_curr_done) tx_done) e ≡ tx_advanced r linked w
  unfolding tx_advanced
  tx_ends t e q = rw (t, q)
