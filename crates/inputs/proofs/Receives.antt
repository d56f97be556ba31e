-- A burst is its single receives. Assumes nothing.
use Prim.Native.Nat.{ℕ, zero, suc, ◌<◌}
use mathlib.Core.Path.{◌≡◌, refl, ap, ◌∙◌}
use mathlib.Core.Bool.{true, false}
use mathlib.Core.List.{List, [], ◌∷◌}
use native.Mathlib.Omega.{arith}
use native.Mathlib.Nat.{not-suc-le-zero}
use lib.ListN.{length, get_or}
use Rattle.rules.proofs.Choices.{by_bool}
use Rattle.enet.specs.declared.Enet.{Enet}
use Rattle.enet.specs.Device.{Outcome, leaves}
use Rattle.enet.specs.Frames.{receive}
use Rattle.pair.specs.declared.Pair.{Pair}
use Rattle.pair.specs.Pair.{pair, passes, bytes_of, received}
use Rattle.pair.specs.Turn.{Bursting}
use Rattle.burst.specs.Burst.{receives, pairs_of}
use Rattle.burst.specs.Taken.{taken, frames_inside, answers_inside}
use Rattle.burst.proofs.Turns.{number_receives}
use Rattle.burst.proofs.Ways.{by_burst}
use Rattle.calls.specs.Calls.{Bench, receive_call, of_burst, call}
use Rattle.inputs.specs.Receives.{after_receives, receive_answers, placed, SingleReceives, BurstReceives, after_pairs, PairAnswered, PairByPair}

-- ---- one pair

past : (d : Enet) (m store : List ℕ) (p : Pair) → passes store p ≡ true → received d m store p ≡ leaves 16 d m
unfolding received
past d m store p e = rw e

inside : (d : Enet) (m store : List ℕ) (p : Pair) → passes store p ≡ false → received d m store p ≡ receive d m (bytes_of store p)
unfolding received
inside d m store p e = rw e

-- ---- all pairs: the bench, the answers of the receives, and the answer list

abbrev at : Enet → List ℕ → Bench
at d m = record { device = d; memory = m }

abbrev bench_of : Bursting → Bench
bench_of r = at r.device r.memory

module _ (store : List ℕ) where
  receives_bench : (ps : List Pair) (d : Enet) (m : List ℕ) → bench_of (receives d m store ps) ≡ after_receives (at d m) (frames_inside store ps)
  unfolding receives frames_inside after_receives
  receives_bench [] d m = refl
  receives_bench (p ∷ ps) d m =
      let rest : Outcome → Bench = λ o. bench_of (receives o.device o.memory store ps) in
      let o = receive d m (bytes_of store p) in
      by_bool (passes store p)
      (λ e. ap rest (past d m store p e) ∙ rw e (receives_bench ps d m))
      (λ e. ap rest (inside d m store p e) ∙ rw e (receives_bench ps o.device o.memory))

  receives_answers : (ps : List Pair) (d : Enet) (m : List ℕ)
      → answers_inside store ps (receives d m store ps).answers ≡ receive_answers (at d m) (frames_inside store ps)
  unfolding receives frames_inside answers_inside receive_answers
  receives_answers [] d m = refl
  receives_answers (p ∷ ps) d m =
      let rest : Outcome → List ℕ = λ o. answers_inside store (p ∷ ps) (o.number ∷ (receives o.device o.memory store ps).answers) in
      let o = receive d m (bytes_of store p) in
      by_bool (passes store p)
      (λ e. ap rest (past d m store p e) ∙ rw e (receives_answers ps d m))
      (λ e. ap rest (inside d m store p e) ∙ rw e (ap (λ (ns : List ℕ). o.number ∷ ns) (receives_answers ps o.device o.memory)))

  receives_list : (ps : List Pair) (d : Enet) (m : List ℕ)
      → (receives d m store ps).answers ≡ placed store ps (receive_answers (at d m) (frames_inside store ps))
  unfolding receives frames_inside placed receive_answers
  receives_list [] d m = refl
  receives_list (p ∷ ps) d m =
      let rest : Outcome → List ℕ = λ o. o.number ∷ (receives o.device o.memory store ps).answers in
      let o = receive d m (bytes_of store p) in
      by_bool (passes store p)
      (λ e. ap rest (past d m store p e) ∙ rw e (ap (λ (ns : List ℕ). 16 ∷ ns) (receives_list ps d m)))
      (λ e. ap rest (inside d m store p e) ∙ rw e (ap (λ (ns : List ℕ). o.number ∷ ns) (receives_list ps o.device o.memory)))

-- ---- the burst

not_done : ◌≡◌ {A = ℕ} 16 0 → ⊥
not_done z = omega arith

pub single_receives_lem : BurstReceives
unfolding frames_inside after_receives receive_answers answers_inside placed
single_receives_lem b store starts lengths answers =
    by_burst (λ r ps. SingleReceives b store ps answers (of_burst store ps r)) b.device b.memory store starts lengths answers
    (record { bench = refl; answers = refl; done = λ z. absurd (not_done z); refused = λ _. (refl, (refl, refl)) })
    (λ _ _.
    let ps = pairs_of starts lengths in
    record {
      bench = receives_bench store ps b.device b.memory;
      answers = receives_answers store ps b.device b.memory;
      done = λ _. receives_list store ps b.device b.memory;
      refused = λ n. absurd (n (number_receives ps b.device b.memory store));
    })

-- ---- pair by pair

-- pair k of these, with the answers as they are placed
abbrev At : List ℕ → List Pair → Bench → ℕ → Type 0
At store ps b k =
    PairAnswered store (get_or ps k (pair 0 0)) (after_pairs b store ps k) (after_pairs b store ps (suc k))
    (get_or (placed store ps (receive_answers b (frames_inside store ps))) k 0)

first_pair : (store : List ℕ) (p : Pair) (ps : List Pair) (b : Bench) → At store (p ∷ ps) b 0
unfolding frames_inside after_receives receive_answers placed
first_pair store p ps b = record { past = λ e. rw e (refl, refl); inside = λ e. rw e (refl, refl) }

at_pair : (store : List ℕ) (ps : List Pair) (b : Bench) (k : ℕ) → k < length ps → At store ps b k
unfolding frames_inside after_receives receive_answers placed
at_pair store [] b k l = absurd (not-suc-le-zero l)
at_pair store (p ∷ ps) b zero l = first_pair store p ps b
at_pair store (p ∷ ps) b (suc k) l =
    by_bool (passes store p)
    (λ e. rw e (at_pair store ps b k (omega arith)))
    (λ e. rw e (at_pair store ps (call b (receive_call (bytes_of store p))).bench k (omega arith)))

pub pair_by_pair : PairByPair
pair_by_pair b store starts lengths answers z k l =
    rw ((single_receives_lem b store starts lengths answers).done z) (at_pair store (taken starts lengths answers) b k l)
