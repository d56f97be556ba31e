-- What each function leaves. Assumes nothing.
use Prim.Native.Nat.{ℕ}
use mathlib.Core.Path.{◌≡◌}
use mathlib.Core.List.{List, []}
use Rattle.memory.specs.Memory.{store}
use Rattle.counters.specs.declared.Counters.{Counters}
use Rattle.enet.specs.declared.Enet.{Enet}
use Rattle.enet.specs.declared.Answered.{Answered}
use Rattle.enet.specs.declared.Ran.{Ran}
use Rattle.enet.specs.Device.{new}
use Rattle.enet.specs.Run.{running, run}
use Rattle.enet.specs.Tick.{tick}
use Rattle.pair.specs.Turn.{bursting}
use Rattle.burst.specs.Burst.{burst_of}
use Rattle.playback.specs.Playing.{Played, bench_of, played, play_into}
use Rattle.counter_trial.specs.Trials.{started, play_on, run_numbers, run_told, run_then_tick, run_left, run_on, burst_numbers, burst_left, burst_on}

pub started_is : (base window : ℕ) (c : Counters) (a : Answered) → a ≡ new base window
    → record { base = a.device.base; window = a.device.window; registers = a.device.registers; counters = c } ≡ started base window c
started_is base window c a e = rw e

pub played_is : (base window : ℕ) (c : Counters) (m o events a : List ℕ) (d : Enet) (p : Played) → d ≡ started base window c
    → p ≡ play_into a (bench_of d m) o events → p ≡ play_on base window c m o events a
unfolding play_on
played_is base window c m o events a d p ed ep = rw (← ed) ep

pub ran_is : (d : Enet) (m o : List ℕ) (allowance : ℕ) (r : Ran) (m₁ o₁ : List ℕ) (t : Answered) (l : List ℕ)
    → running r m₁ o₁ ≡ run d m o allowance → t ≡ tick r.device m₁ → l ≡ run_numbers (running r [] []) t
    → run_told m₁ o₁ l ≡ run_then_tick d m o allowance
unfolding run_then_tick
ran_is d m o allowance r m₁ o₁ t l er et el = rw (← er, ← et, el)

module _ (base window : ℕ) (c : Counters) (m o events a : List ℕ) (d : Enet) (m₁ o₁ a₁ : List ℕ)
    (ep : played d m₁ o₁ a₁ ≡ play_on base window c m o events a) (f f₁ l : List ℕ) (ef : f₁ ≡ store f 0 l) where
  pub run_left_lem : (allowance : ℕ) (m₂ o₂ : List ℕ) → run_told m₂ o₂ l ≡ run_then_tick d m₁ o₁ allowance
      → run_left m₂ o₂ a₁ f₁ ≡ run_on (play_on base window c m o events a) allowance f
  unfolding run_on
  run_left_lem allowance m₂ o₂ er = rw (← ep, ← er, ef)

  pub burst_left_lem : (frames starts lengths list list₁ : List ℕ) (b : Answered) (m₂ : List ℕ)
      → bursting b m₂ list₁ ≡ burst_of d m₁ frames starts lengths list → l ≡ burst_numbers (bursting b [] [])
      → burst_left m₂ o₁ a₁ list₁ f₁ ≡ burst_on (play_on base window c m o events a) frames starts lengths list f
  unfolding burst_on
  burst_left_lem frames starts lengths list list₁ b m₂ eb el = rw (← ep, ← eb, ef, el)
