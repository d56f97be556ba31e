-- What a burst and each of its pairs leave if they are refused. Assumes nothing.
use Prim.Native.Nat.{ℕ}
use mathlib.Core.Path.{◌≡◌, refl, ◌∙◌}
use mathlib.Core.Logic.{inl, inr, ◌≢◌}
use mathlib.Core.List.{List}
use Rattle.rules.proofs.Choices.{by_bool}
use Rattle.pair.specs.declared.Pair.{Pair}
use Rattle.pair.specs.Pair.{passes, bytes_of}
use Rattle.burst.proofs.Turns.{number_receives}
use Rattle.burst.proofs.Ways.{by_burst}
use Rattle.calls.specs.Calls.{Bench, burst_call, of_burst, call}
use Rattle.inputs.specs.Receives.{PairAnswered}
use Rattle.refusals.specs.Rows.{effect, row}
use Rattle.refusals.specs.Refusals.{Leaves, PairLeaves}
use Rattle.refusals.proofs.Refused.{receive_row}

-- ---- the whole burst

module _ (b : Bench) (store starts lengths answers : List ℕ) where
  pub burst_row : (call b (burst_call store starts lengths answers)).number ≢ 0 → Leaves b (burst_call store starts lengths answers)
  unfolding row
  burst_row =
      by_burst (λ r ps. r.number ≢ 0 → effect (of_burst store ps r) ≡ row r.number (burst_call store starts lengths answers) b)
      b.device b.memory store starts lengths answers
      (λ _. refl)
      (λ _ _ n. absurd (n (number_receives _ b.device b.memory store)))

-- ---- one pair

module _ (store : List ℕ) (p : Pair) (before after : Bench) (n : ℕ) (a : PairAnswered store p before after n) where
  pub pair_row : PairLeaves store p before after n
  pair_row h =
      by_bool (passes store p)
      (λ e. inl ((a.past e).0, (a.past e).1))
      (λ e. inr ((a.inside e).0, ((a.inside e).1, receive_row before (bytes_of store p) (λ z. h ((a.inside e).0 ∙ z)))))
