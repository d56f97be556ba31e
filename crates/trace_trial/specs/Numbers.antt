-- What reading, writing and replay answer, as lists of numbers. Assumes nothing.
use Rattle.std.specs.Prelude.{ℕ, Bool, List, [], ◌∷◌, ◌++◌}
use Rattle.std.specs.Prelude.{if◌then◌else◌}
use Rattle.memory.specs.Memory.{store}
use Rattle.engine.specs.declared.Engine.{Engine}
use Rattle.counters.specs.declared.Counters.{Counters}
use Rattle.trace.specs.Reading.{Summary}
use Rattle.trace_writing.specs.Writing.{Written}
use Rattle.replaying.specs.Replay.{Replayed, replay}

abbrev pub summary_numbers : Summary → List ℕ
summary_numbers f = f.number ∷ f.block ∷ f.base ∷ f.window ∷ f.bytes ∷ f.events ∷ []

abbrev pub written_numbers : Written → List ℕ
written_numbers w = w.number ∷ w.blocks ∷ []

abbrev pub flag : Bool → ℕ
flag t = if t then 1 else 0

abbrev pub engine_numbers : Engine → List ℕ
engine_numbers e = e.start ∷ e.next ∷ flag e.running ∷ e.place ∷ flag e.polling ∷ []

abbrev pub counter_numbers : Counters → List ℕ
counter_numbers c = c.delivered ∷ c.lost ∷ c.sent ∷ c.ticks ∷ []

-- number, block, bytes, events, then the window and the registers, then receiving, then sending, the send time-out, the counters
abbrev pub replayed_numbers : Replayed → List ℕ
replayed_numbers r =
    let d = r.device in
    let g = d.registers in
    let f = g.filter in
    r.number ∷ r.block ∷ r.bytes ∷ r.events ∷ d.base ∷ d.window ∷ g.isr ∷ g.ier ∷ f.mcr ∷ f.mah ∷ f.mal ∷ f.mcha ∷ f.mcla ∷ engine_numbers g.rx ++ engine_numbers g.tx ++ (g.txtor ∷ counter_numbers d.counters)

-- what a replay leaves of all that it is lent, and its answer at the front of a list
pub record Left : Type 0 where
  pub room : List ℕ
  pub memory : List ℕ
  pub output : List ℕ
  pub answers : List ℕ
  pub found : List ℕ

abbrev pub left : List ℕ → List ℕ → List ℕ → List ℕ → List ℕ → Left
left room memory output answers found =
    record { room = room; memory = memory; output = output; answers = answers; found = found }

abbrev pub replayed : List ℕ → List ℕ → List ℕ → List ℕ → List ℕ → List ℕ → Left
replayed t room memory output answers found =
    let r = replay t room memory output answers in
    left r.room r.memory r.output r.answers (store found 0 (replayed_numbers r.replayed))
