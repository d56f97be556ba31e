-- A burst in a list does what its single receives do there. Assumes nothing.
use Prim.Native.Nat.{ℕ}
use mathlib.Core.Path.{◌≡◌, refl, sym, ap, ◌∙◌}
use mathlib.Core.List.{List, [], ◌∷◌, ◌++◌, map, append-nil}
use lib.ListN.{length}
use Rattle.calls.specs.Calls.{Bench, receive_call, burst_call, call}
use Rattle.inputs.specs.Receives.{after_receives, receive_answers}
use Rattle.inputs.proofs.Receives.{single_receives_lem}
use Rattle.steps.specs.Steps.{Step, public_call, step, frames_of, answers_of, counted, counted_all, counted_each, Progress, after_step, after_steps}
use Rattle.history.specs.Claim.{frames, grants_before, delivered_by}
use Rattle.bursts.specs.Bursts.{answers_along, Same, BurstStands}

-- ---- single receives of these frames, and a list behind them

abbrev singles : List (List ℕ) → List Step
singles fs = map (λ frame. public_call (receive_call frame)) fs

-- what they leave
abbrev left : Progress → List (List ℕ) → Progress
left p fs = record {
  bench = after_receives p.bench fs;
  grants = p.grants;
  delivered = counted_all p.delivered (receive_answers p.bench fs);
}

one_left : (p : Progress) (f : List ℕ) → after_step p (public_call (receive_call f)) ≡ left p (f ∷ [])
unfolding after_receives receive_answers
one_left p f = λ j. record {
  bench = (call p.bench (receive_call f)).bench;
  grants = append-nil p.grants j;
  delivered = counted p.delivered (call p.bench (receive_call f)).number;
}

module _ (rest : List Step) where
  singles_end : (fs : List (List ℕ)) (p : Progress) → after_steps p (singles fs ++ rest) ≡ after_steps (left p fs) rest
  unfolding after_steps after_receives receive_answers
  singles_end [] p = refl
  singles_end (f ∷ fs) p = ap (λ q. after_steps q (singles fs ++ rest)) (one_left p f) ∙ singles_end fs (left p (f ∷ []))

  singles_frames : (fs : List (List ℕ)) → frames (singles fs ++ rest) ≡ fs ++ frames rest
  unfolding frames
  singles_frames [] = refl
  singles_frames (f ∷ fs) = ap (λ l. f ∷ l) (singles_frames fs)

  singles_answers : (fs : List (List ℕ)) (b : Bench)
      → answers_along b (singles fs ++ rest) ≡ receive_answers b fs ++ answers_along (after_receives b fs) rest
  unfolding answers_along after_receives receive_answers
  singles_answers [] b = refl
  singles_answers (f ∷ fs) b = ap (λ l. (call b (receive_call f)).number ∷ l) (singles_answers fs (call b (receive_call f)).bench)

  singles_grants : (fs : List (List ℕ)) (p : Progress)
      → grants_before p (singles fs ++ rest) ≡ map (λ frame. length p.grants) fs ++ grants_before (left p fs) rest
  unfolding grants_before after_receives receive_answers
  singles_grants [] p = refl
  singles_grants (f ∷ fs) p =
      ap (λ q. length p.grants ∷ grants_before q (singles fs ++ rest)) (one_left p f)
      ∙ ap (λ l. length p.grants ∷ l) (singles_grants fs (left p (f ∷ [])))

  singles_delivered : (fs : List (List ℕ)) (p : Progress)
      → delivered_by p (singles fs ++ rest) ≡ counted_each p.delivered (receive_answers p.bench fs) ++ delivered_by (left p fs) rest
  unfolding delivered_by after_receives receive_answers
  singles_delivered [] p = refl
  singles_delivered (f ∷ fs) p =
      let v = counted p.delivered (call p.bench (receive_call f)).number in
      ap (λ q. v ∷ delivered_by q (singles fs ++ rest)) (one_left p f) ∙ ap (λ l. v ∷ l) (singles_delivered fs (left p (f ∷ [])))

-- ---- a burst at the front of a list

module _ (p : Progress) (rest : List Step) (store starts lengths answers : List ℕ) where
  abbrev s : Step
  s = public_call (burst_call store starts lengths answers)

  burst_bench : (step p.bench s).bench ≡ after_receives p.bench (frames_of s)
  burst_bench = (single_receives_lem p.bench store starts lengths answers).bench

  burst_answers : answers_of p.bench s ≡ receive_answers p.bench (frames_of s)
  burst_answers = (single_receives_lem p.bench store starts lengths answers).answers

  burst_left_lem : after_step p s ≡ left p (frames_of s)
  burst_left_lem = λ j. record {
    bench = burst_bench j;
    grants = append-nil p.grants j;
    delivered = counted_all p.delivered (burst_answers j);
  }

  front : Same p (s ∷ rest) (singles (frames_of s) ++ rest)
  unfolding after_steps frames answers_along grants_before delivered_by
  front = record {
    end = ap (λ q. after_steps q rest) burst_left_lem ∙ sym (singles_end rest (frames_of s) p);
    brought = sym (singles_frames rest (frames_of s));
    answers = (λ j. burst_answers j ++ answers_along (burst_bench j) rest) ∙ sym (singles_answers rest (frames_of s) p.bench);
    grants =
        ap (λ q. map (λ frame. length p.grants) (frames_of s) ++ grants_before q rest) burst_left_lem
        ∙ sym (singles_grants rest (frames_of s) p);
    delivered =
        (λ j. counted_each p.delivered (burst_answers j) ++ delivered_by (burst_left_lem j) rest)
        ∙ sym (singles_delivered rest (frames_of s) p);
  }

-- ---- anywhere

behind : (p : Progress) (s : Step) (steps others : List Step) → Same (after_step p s) steps others → Same p (s ∷ steps) (s ∷ others)
unfolding after_steps frames answers_along grants_before delivered_by
behind p s steps others e = record {
  end = e.end;
  brought = ap (λ l. frames_of s ++ l) e.brought;
  answers = ap (λ l. answers_of p.bench s ++ l) e.answers;
  grants = ap (λ l. map (λ frame. length p.grants) (frames_of s) ++ l) e.grants;
  delivered = ap (λ l. counted_each p.delivered (answers_of p.bench s) ++ l) e.delivered;
}

pub burst_stands : BurstStands
burst_stands p [] rest store starts lengths answers = front p rest store starts lengths answers
burst_stands p (s ∷ before) rest store starts lengths answers =
    behind p s _ _ (burst_stands (after_step p s) before rest store starts lengths answers)
