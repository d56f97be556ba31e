-- The read that takes gives the vector of the answer, and takes its rank. Assumes nothing.
use Prim.Native.Nat.{ℕ, ◌<◌}
use mathlib.Core.Path.{◌≡◌, sym, ap, ◌∙◌}
use mathlib.Core.Bool.{true, false}
use native.Mathlib.Omega.{arith}
use borrow.Author.Tests.{ltb-true, ltb-false}
use Rattle.rules.proofs.Choices.{by_bool}
use Rattle.first_where.proofs.Laws.{first_within}
use Rattle.vic_service.specs.Service.{last_taken, taken}
use Rattle.vic_pair.specs.declared.Vics.{Vics}
use Rattle.vic_pair.specs.declared.Inputs.{Inputs}
use Rattle.vic_pair.specs.declared.Which.{Which}
use Rattle.vic_pair.specs.declared.Which.TheVariants.{Vic0}
use Rattle.vic_answer.specs.Answer.{request, raised_rank, answered, irq}
use Rattle.vic.specs.Access.{with_service, vector_of, found, read_vector, read}
use Rattle.vic_claims.specs.Requests.{Sized, rank_of}
use Rattle.vic_claims.specs.Answers.{TakesAnswer}
use Rattle.vic_claims.proofs.Answered.{vector_at_answer, answered_is, raised_found, raised_least, answer_exactly, silent}

module _ (v : Vics) (i : Inputs) where
  reads_answer : answered v i ≡ true
      → read v i Vic0 0x030 ≡ found (vector_of v (raised_rank v i)) (with_service v (taken v.service (raised_rank v i)))
  unfolding read read_vector
  reads_answer e = rw e

  reads_none : answered v i ≡ false → read v i Vic0 0x030 ≡ found v.vic0.default v
  unfolding read read_vector
  reads_none e = rw e

  -- the vector of the request that is answered
  vector_told : answered v i ≡ true → (w : Which) (n a : ℕ) → irq v i ≡ request w n a → vector_of v (raised_rank v i) ≡ a
  vector_told e w n a h =
      let d = answered_is v i (ltb-true (raised_rank v i) (last_taken v.service) e) in ap vector_at_answer (sym d ∙ h)

  -- and its rank
  rank_told : Sized v → answered v i ≡ true → (w : Which) (n a : ℕ) → irq v i ≡ request w n a → raised_rank v i ≡ rank_of v w n
  rank_told s e w n a h =
      let g = answer_exactly.one v s i w n a h in
      let m = raised_least v i w n g.requests in
      let u = ltb-true (raised_rank v i) (last_taken v.service) e in
      let w64 = first_within (λ b. b) v.service in
      let l = s.service in
      let q : raised_rank v i < 64 = omega arith in
      let f = raised_found v i q in
      let k = g.highest f.which f.input f.requests in
      let r = f.rank in
      omega arith

pub takes_answer : TakesAnswer
takes_answer =
    record {
      one = λ v s i w n a h.
          by_bool (answered v i)
          (λ e.
          reads_answer v i e
          ∙ ap (λ (x : ℕ). found x (with_service v (taken v.service (raised_rank v i)))) (vector_told v i e w n a h)
          ∙ ap (λ (r : ℕ). found a (with_service v (taken v.service r))) (rank_told v i s e w n a h))
          (λ e.
          let d = silent v i (ltb-false (raised_rank v i) (last_taken v.service) e) in
          let z : ◌≡◌ {A = ℕ} 0 1 = cc in
          absurd (omega arith));
      none = λ v i h.
          by_bool (answered v i)
          (λ e.
          let d = answered_is v i (ltb-true (raised_rank v i) (last_taken v.service) e) in
          let z : ◌≡◌ {A = ℕ} 0 1 = cc in
          absurd (omega arith))
          (λ e. reads_none v i e);
    }
