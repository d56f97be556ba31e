-- What a device does whose counters start anywhere, so that their stop can be tried. Assumes nothing.
use Rattle.std.specs.Prelude.{ℕ, List, [], ◌∷◌}
use Rattle.memory.specs.Memory.{store}
use Rattle.counters.specs.declared.Counters.{Counters}
use Rattle.enet.specs.declared.Enet.{Enet}
use Rattle.enet.specs.declared.Answered.{Answered}
use Rattle.enet.specs.Device.{with_counters, new}
use Rattle.enet.specs.Run.{Running, run}
use Rattle.enet.specs.Tick.{tick}
use Rattle.pair.specs.Turn.{Bursting}
use Rattle.burst.specs.Burst.{burst_of}
use Rattle.playback.specs.Playing.{Played, bench_of, play_into}

-- a new bench over a window, but for its counters
abbrev pub started : ℕ → ℕ → Counters → Enet
started base window c = with_counters (new base window).device c

-- the events of a list of bytes on it, as a replay plays them
unfoldable pub play_on : ℕ → ℕ → Counters → List ℕ → List ℕ → List ℕ → List ℕ → Played
play_on base window c memory output events answers = play_into answers (bench_of (started base window c) memory) output events

-- the counters and the interrupt status of a device
abbrev pub device_numbers : Enet → List ℕ
device_numbers d =
    let c = d.counters in c.delivered ∷ c.lost ∷ c.sent ∷ c.ticks ∷ d.registers.isr ∷ []

-- ---- then a step run, and a tick

-- what is left of all that is lent, and the answers at the front of a list
pub record RunLeft : Type 0 where
  pub memory : List ℕ
  pub output : List ℕ
  pub answers : List ℕ
  pub found : List ℕ

abbrev pub run_left : List ℕ → List ℕ → List ℕ → List ℕ → RunLeft
run_left memory output answers found = record { memory = memory; output = output; answers = answers; found = found }

-- the run's number, steps and bytes, the tick's number, and the device behind it
abbrev pub run_numbers : Running → Answered → List ℕ
run_numbers r t = r.number ∷ r.steps ∷ r.count ∷ t.number ∷ device_numbers t.device

-- what the two leave, with their numbers
pub record RunTold : Type 0 where
  pub memory : List ℕ
  pub output : List ℕ
  pub numbers : List ℕ

abbrev pub run_told : List ℕ → List ℕ → List ℕ → RunTold
run_told memory output numbers = record { memory = memory; output = output; numbers = numbers }

unfoldable pub run_then_tick : Enet → List ℕ → List ℕ → ℕ → RunTold
run_then_tick d memory output allowance =
    let r = run d memory output allowance in
    run_told r.memory r.output (run_numbers r (tick r.device r.memory))

unfoldable pub run_on : Played → ℕ → List ℕ → RunLeft
run_on p allowance found =
    let r = run_then_tick p.bench.device p.bench.memory p.output allowance in
    run_left r.memory r.output p.answers (store found 0 r.numbers)

-- ---- or a burst

pub record BurstLeft : Type 0 where
  pub memory : List ℕ
  pub output : List ℕ
  pub answers : List ℕ
  pub list : List ℕ
  pub found : List ℕ

abbrev pub burst_left : List ℕ → List ℕ → List ℕ → List ℕ → List ℕ → BurstLeft
burst_left memory output answers list found =
    record { memory = memory; output = output; answers = answers; list = list; found = found }

-- the burst's number, and the device behind it
abbrev pub burst_numbers : Bursting → List ℕ
burst_numbers b = b.number ∷ device_numbers b.device

unfoldable pub burst_on : Played → List ℕ → List ℕ → List ℕ → List ℕ → List ℕ → BurstLeft
burst_on p frames starts lengths list found =
    let b = burst_of p.bench.device p.bench.memory frames starts lengths list in
    burst_left b.memory p.output p.answers b.answers (store found 0 (burst_numbers b))
