-- A day event by event, beside its steps. Assumes nothing.
use mathlib.Core.Path.{refl, ap}
use mathlib.Core.List.{List, [], ◌∷◌}
use Prim.Native.Nat.{ℕ}
use Rattle.steps.specs.Steps.{public_call, after_step, after_steps}
use Rattle.playback.specs.Playing.{call_of, act, play}
use Rattle.day_steps.specs.DaySteps.{steps_of, numbers_of, DaysAreSteps, DaysInParts}

pub days_are_steps : DaysAreSteps
unfolding steps_of numbers_of after_steps play act
days_are_steps p output [] = record { bench = refl; answers = refl }
days_are_steps p output (e ∷ es) =
    let a = act p.bench output e in
    let rest = days_are_steps (after_step p (public_call (call_of output e))) a.output es in
    record { bench = rest.bench; answers = ap (λ (l : List ℕ). a.number ∷ l) rest.answers }

pub days_in_parts : DaysInParts
unfolding play
days_in_parts b output [] es = record { bench = refl; output = refl; answers = refl }
days_in_parts b output (d ∷ ds) es =
    let a = act b output d in
    let rest = days_in_parts a.bench a.output ds es in
    record { bench = rest.bench; output = rest.output; answers = ap (λ (l : List ℕ). a.number ∷ l) rest.answers }
