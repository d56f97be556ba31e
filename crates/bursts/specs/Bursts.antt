-- 02, Wish 1: "Demand 3 counts the frames inside: a burst stands in its list as one receive for each pair inside the store". So a
-- list with a burst does what the list does that has these single receives in the burst's place. Assumes nothing.
use Rattle.std.specs.Prelude.{ℕ, ◌≡◌, List, [], ◌∷◌, ◌++◌, map}
use Rattle.calls.specs.Calls.{Bench, Call, receive_call, burst_call}
use Rattle.steps.specs.Steps.{Step, public_call, step, frames_of, answers_of, Progress, after_steps}
use Rattle.history.specs.Claim.{frames, grants_before, delivered_by}

-- one receive for each frame that a call brings
abbrev pub receives_of : Call → List Step
receives_of c = map (λ frame. public_call (receive_call frame)) (frames_of (public_call c))

-- what the receives of a list answer, in order
unfoldable pub answers_along : Bench → List Step → List ℕ
answers_along b [] = []
answers_along b (s ∷ steps) = answers_of b s ++ answers_along (step b s).bench steps

-- two lists that do the same: the same bench, the same grants and as many deliveries at the end, the same frames, with the same
-- answers, and before and after each of them the same counts
pub record Same (p : Progress) (steps others : List Step) : Type 0 where
  pub end : after_steps p steps ≡ after_steps p others
  pub brought : frames steps ≡ frames others
  pub answers : answers_along p.bench steps ≡ answers_along p.bench others
  pub grants : grants_before p steps ≡ grants_before p others
  pub delivered : delivered_by p steps ≡ delivered_by p others

-- wherever a burst stands
abbrev pub BurstStands : Type 0
BurstStands =
    (p : Progress) (before rest : List Step) (store starts lengths answers : List ℕ)
    → Same p (before ++ (public_call (burst_call store starts lengths answers) ∷ rest))
    (before ++ (receives_of (burst_call store starts lengths answers) ++ rest))
