-- A row of ticks. Assumes nothing.
use Prim.Native.Nat.{ℕ, zero, suc, ◌+◌, ◌≤◌, ◌<◌}
use mathlib.Core.Path.{◌≡◌, refl, ap, ◌∙◌}
use mathlib.Core.Bool.{true}
use mathlib.Core.Logic.{◌≢◌}
use mathlib.Core.List.{List}
use native.Mathlib.Omega.{arith}
use native.Mathlib.Numerals.{add-one}
use borrow.Author.Tests.{ne_eqb, lt-ltb, le-ltb}
use Rattle.window.specs.Window.{lent}
use Rattle.registers.specs.Registers.{tx_to}
use Rattle.ticking.specs.Tick as plain
use Rattle.ticking.specs.Tick.{stalled, counted}
use Rattle.enet.specs.declared.Enet.{Enet}
use Rattle.enet.specs.Device.{raised, with_ticks}
use Rattle.enet.specs.Tick.{tick}
use Rattle.calls.specs.Calls.{Bench, tick_call, call}
use Rattle.counting.specs.Ticks.{ticks, Stalls, FiresBehind}

module _ (d : Enet) (m : List ℕ) (whole : lent d.window m ≡ true) (set : d.registers.txtor ≢ 0)
    (stands : stalled d.base d.window d.registers m ≡ true) where
  abbrev at : ℕ → Bench
  at k = record { device = with_ticks d k; memory = m }

  counts_on : (k : ℕ) → k < d.registers.txtor → (call (at k) tick_call).bench ≡ at (suc k)
  unfolding tick plain.tick counted
  counts_on k h = rw (whole, ne_eqb d.registers.txtor 0 set, stands, le-ltb d.registers.txtor (k + 1) (omega arith), add-one k)

  passes : (call (at d.registers.txtor) tick_call).bench ≡ record { device = with_ticks (raised d tx_to) 0; memory = m }
  unfolding tick plain.tick counted
  passes = rw (whole, ne_eqb d.registers.txtor 0 set, stands, lt-ltb d.registers.txtor (d.registers.txtor + 1) (omega arith))

  -- k ticks behind j others
  on : (k j : ℕ) → j + k ≤ d.registers.txtor → ticks k (at j) ≡ at (j + k)
  unfolding ticks
  on zero j h = let e : j ≡ j + 0 = omega arith in ap at e
  on (suc k) j h =
      let e : suc j + k ≡ j + suc k = omega arith in
      ap (ticks k) (counts_on j (omega arith)) ∙ on k (suc j) (omega arith) ∙ ap at e

  -- and one more
  ticks_last : (k : ℕ) (b : Bench) → ticks (suc k) b ≡ (call (ticks k b) tick_call).bench
  unfolding ticks
  ticks_last zero b = refl
  ticks_last (suc k) b = ticks_last k (call b tick_call).bench

  fired : ticks (suc d.registers.txtor) (at 0) ≡ record { device = with_ticks (raised d tx_to) 0; memory = m }
  fired =
      let v = d.registers.txtor in
      ticks_last v (at 0)
      ∙ ap (λ b. (call b tick_call).bench) (on v 0 (omega arith))
      ∙ ap (λ k. (call (at k) tick_call).bench) (add_zero_left v)
      ∙ passes
    where
      add_zero_left : (v : ℕ) → 0 + v ≡ v
      add_zero_left v = omega arith

-- a bench that stalls, with its count written out
start : (b : Bench) → Stalls b → b ≡ record { device = with_ticks b.device 0; memory = b.memory }
start b s = ap (λ k. record { device = with_ticks b.device k; memory = b.memory }) s.fresh

pub fires_behind : FiresBehind
fires_behind = record {
  counts = λ b s k h.
      let e : 0 + k ≡ k = omega arith in
      ap (ticks k) (start b s)
      ∙ on b.device b.memory s.whole s.set s.stands k 0 (omega arith)
      ∙ ap (λ n. record { device = with_ticks b.device n; memory = b.memory }) e;
  fires = λ b s.
      ap (ticks (suc b.device.registers.txtor)) (start b s) ∙ fired b.device b.memory s.whole s.set s.stands;
}
