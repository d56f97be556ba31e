-- 02, Wish 4: a replayed day is "direct calls on a new bench". So it is a list of steps as document 01's "Histories" has them, and
-- what is proved of every list of steps, demand 3 too, holds of it and of each part of it. Assumes nothing.
use Rattle.std.specs.Prelude.{ℕ, ◌≡◌, List, [], ◌∷◌, ◌++◌}
use Rattle.event.specs.Event.{Event}
use Rattle.calls.specs.Calls.{Bench}
use Rattle.steps.specs.Steps.{Step, public_call, step, Progress, after_steps}
use Rattle.playback.specs.Playing.{call_of, act, play}

-- the events as steps: each is lent the output that the one before it left
unfoldable pub steps_of : Bench → List ℕ → List Event → List Step
steps_of b output [] = []
steps_of b output (e ∷ es) =
    let a = act b output e in
    public_call (call_of output e) ∷ steps_of a.bench a.output es

-- the numbers that a list of steps answers, one behind the other
unfoldable pub numbers_of : Bench → List Step → List ℕ
numbers_of b [] = []
numbers_of b (s ∷ steps) = (step b s).number ∷ numbers_of (step b s).bench steps

-- a day and its steps leave the same bench and give the same numbers, whatever was done before
pub record Same (p : Progress) (output : List ℕ) (es : List Event) : Type 0 where
  pub bench : (after_steps p (steps_of p.bench output es)).bench ≡ (play p.bench output es).bench
  pub answers : numbers_of p.bench (steps_of p.bench output es) ≡ (play p.bench output es).answers

abbrev pub DaysAreSteps : Type 0
DaysAreSteps = (p : Progress) (output : List ℕ) (es : List Event) → Same p output es

-- a day in two parts: the second meets what the first left. So a list of steps may begin in the middle of a day, as where a ring
-- is sound and receiving runs
pub record InParts (b : Bench) (o : List ℕ) (ds es : List Event) : Type 0 where
  pub bench : (play b o (ds ++ es)).bench ≡ (play (play b o ds).bench (play b o ds).output es).bench
  pub output : (play b o (ds ++ es)).output ≡ (play (play b o ds).bench (play b o ds).output es).output
  pub answers : (play b o (ds ++ es)).answers ≡ (play b o ds).answers ++ (play (play b o ds).bench (play b o ds).output es).answers

abbrev pub DaysInParts : Type 0
DaysInParts = (b : Bench) (output : List ℕ) (ds es : List Event) → InParts b output ds es
