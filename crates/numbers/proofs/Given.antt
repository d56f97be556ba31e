-- Which numbers a send and a step run answer, and how large a number of a list is. Assumes nothing.
use Prim.Native.Nat.{ℕ, zero, suc, ◌≤◌}
use mathlib.Core.Path.{◌≡◌, refl}
use mathlib.Core.Bool.{Bool, true, false, ◌&&◌, ◌||◌, false≢true}
use mathlib.Core.Logic.{⊎_elim}
use mathlib.Core.List.{List, [], ◌∷◌}
use native.Mathlib.Omega.{arith}
use lib.Dec.{eqb, leb, ltb}
use borrow.Author.Tests.{eqb-true, leb-true}
use Rattle.rules.proofs.Choices.{by_test, and_parts, either}
use Rattle.enet.specs.declared.Enet.{Enet}
use Rattle.enet.specs.Send.{send}
use Rattle.enet.specs.Run.{Running, sends, run}
use Rattle.enet.proofs.Ways.{by_send}
use Rattle.changes.specs.OneOf.{one_of}
use Rattle.numbers.specs.Numbers.{send_numbers}

pub send_number_lem : (d : Enet) (m out : List ℕ) → one_of (send d m out).number (0 ∷ send_numbers) ≡ true
send_number_lem d m out = by_send (λ s. one_of s.number (0 ∷ send_numbers) ≡ true) d m out refl refl refl refl refl refl (λ _ _. refl)

-- a step run's number is its last send's
sends_number : (left : ℕ) (d : Enet) (m out : List ℕ) → one_of (sends left d m out).number (0 ∷ send_numbers) ≡ true
unfolding sends
sends_number zero d m out = refl
sends_number (suc left) d m out =
    let s = send d m out in
    by_test (λ (r : Running). one_of r.number (0 ∷ send_numbers) ≡ true) (eqb s.number 0) _ _
    (λ _. sends_number left _ _ _)
    (λ _. send_number_lem d m out)

later : (s t u : Bool) → (s || t) ≡ true → (s || (u || t)) ≡ true
later true t u e = refl
later false t true e = refl
later false t false e = e

pub run_number : (d : Enet) (m out : List ℕ) (allowance : ℕ) → one_of (run d m out allowance).number (0 ∷ 10 ∷ send_numbers) ≡ true
unfolding run
run_number d m out allowance =
    by_test (λ (r : Running). one_of r.number (0 ∷ 10 ∷ send_numbers) ≡ true) (ltb 4096 allowance) _ _
    (λ _. refl)
    (λ _.
    let n = (sends allowance d m out).number in
    later (eqb n 0) (one_of n send_numbers) (eqb n 10) (sends_number allowance d m out))

-- every number of a list is at most k
unfoldable pub all_small : ℕ → List ℕ → Bool
all_small k [] = true
all_small k (x ∷ l) = leb x k && all_small k l

pub small : (k n : ℕ) (l : List ℕ) → all_small k l ≡ true → one_of n l ≡ true → n ≤ k
unfolding all_small
small k n [] h e = absurd (false≢true e)
small k n (x ∷ l) h e =
    let p = and_parts (leb x k) (all_small k l) h in
    ⊎_elim
    (λ q. omega (arith, eqb-true n x q, leb-true x k p.0))
    (λ q. small k n l p.1 q)
    (either (eqb n x) (one_of n l) e)
