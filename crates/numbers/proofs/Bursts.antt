-- Which numbers a burst and each of its pairs answer. Assumes nothing.
use Prim.Native.Nat.{ℕ}
use mathlib.Core.Path.{◌≡◌, refl, sym, ◌∙◌}
use mathlib.Core.Bool.{true}
use mathlib.Core.Logic.{◌≢◌, ◌↔◌}
use mathlib.Core.List.{List, [], ◌∷◌}
use native.Mathlib.Omega.{arith}
use Rattle.rules.proofs.Choices.{by_bool}
use Rattle.enet.proofs.Ways.{by_receive}
use Rattle.pair.specs.declared.Pair.{Pair}
use Rattle.pair.specs.Pair.{passes, bytes_of}
use Rattle.burst.proofs.Turns.{number_receives}
use Rattle.burst.proofs.Ways.{by_burst}
use Rattle.calls.specs.Calls.{Bench, receive_call, burst_call, call}
use Rattle.changes.specs.OneOf.{one_of}
use Rattle.inputs.specs.Receives.{PairAnswered}
use Rattle.numbers.specs.Numbers.{pair_numbers}

module _ (b : Bench) (store starts lengths answers : List ℕ) where
  pub burst_number : one_of (call b (burst_call store starts lengths answers)).number (0 ∷ 16 ∷ []) ≡ true
  burst_number =
      by_burst (λ r ps. one_of r.number (0 ∷ 16 ∷ []) ≡ true) b.device b.memory store starts lengths answers refl
      (λ _ _. rw (number_receives _ b.device b.memory store))

-- ---- one pair

receive_number_lem : (b : Bench) (frame : List ℕ) → one_of (call b (receive_call frame)).number (0 ∷ pair_numbers) ≡ true
receive_number_lem b frame =
    by_receive (λ o. one_of o.number (0 ∷ pair_numbers) ≡ true) b.device b.memory frame refl refl refl refl refl refl refl refl

-- no receive answers 16
receive_below : (b : Bench) (frame : List ℕ) → (call b (receive_call frame)).number ≢ 16
receive_below b frame =
    by_receive (λ o. o.number ≢ 16) b.device b.memory frame
    (λ e. omega arith) (λ e. omega arith) (λ e. omega arith) (λ e. omega arith) (λ e. omega arith) (λ e. omega arith) (λ e. omega arith)
    (λ e. omega arith)

module _ (store : List ℕ) (p : Pair) (before after : Bench) (n : ℕ) (a : PairAnswered store p before after n) where
  pub pair_number : one_of n (0 ∷ pair_numbers) ≡ true
  pair_number =
      by_bool (passes store p)
      (λ e. rw (a.past e).0)
      (λ e. rw (a.inside e).0 (receive_number_lem before (bytes_of store p)))

  pub pair_sixteen : (n ≡ 16) ↔ (passes store p ≡ true)
  pair_sixteen = (
    λ z. by_bool (passes store p) (λ e. e) (λ e. absurd (receive_below before (bytes_of store p) (sym (a.inside e).0 ∙ z))),
    λ e. (a.past e).0,
  )
