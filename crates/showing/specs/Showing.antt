-- What showing a replayed day leaves (docs/TRACE.md, "replay"). Assumes nothing.
use Rattle.std.specs.Prelude.{ℕ, List, ◌++◌, take, drop}
use Rattle.event.specs.Walk.{walk}
use Rattle.event.specs.declared.Found.{Found}
use Rattle.calls.specs.Calls.{Bench}
use Rattle.playback.specs.Playing.{bench_of, act_as, play}
use Rattle.day_lines.specs.declared.Day.{Day}

pub record Left : Type 0 where
  pub bench : Bench
  pub output : List ℕ

abbrev pub left : Day → List ℕ → List ℕ → Left
left day memory output = record { bench = bench_of day.device memory; output = output }

-- an event as the code found it
abbrev pub next : Left → List ℕ → Found → Left
next l list found =
    let a = act_as l.bench l.output list found in record { bench = a.bench; output = a.output }

-- all events: those of the day that is played
unfoldable pub shown : Left → List ℕ → Left
shown l list =
    let p = play l.bench l.output (walk list).events in record { bench = p.bench; output = p.output }

-- over the bytes that are lent of the memory; the others stay as they are
unfoldable pub shown_over : Day → List ℕ → ℕ → List ℕ → List ℕ → Left
shown_over day memory lent output list =
    let l = shown (left day (take lent memory) output) list in
    record { bench = bench_of l.bench.device (l.bench.memory ++ drop lent memory); output = l.output }
