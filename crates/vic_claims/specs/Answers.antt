-- 02, Wish 8: what the IRQ answer is, exactly. Assumes nothing.
use Rattle.std.specs.Prelude.{ℕ, ◌≤◌, ◌<◌, ◌≡◌, None}
use Rattle.vic_pair.specs.declared.Vics.{Vics}
use Rattle.vic_pair.specs.declared.Inputs.{Inputs}
use Rattle.vic_pair.specs.declared.Which.{Which}
use Rattle.vic_pair.specs.declared.Which.TheVariants.{Vic0}
use Rattle.vic_answer.specs.Answer.{request, irq}
use Rattle.vic_service.specs.Service.{taken}
use Rattle.vic.specs.Access.{controller_of, with_service, found, read}
use Rattle.vic_claims.specs.Requests.{Sized, Requests, rank_of, vector_in, InService, Above}

-- the request of input n of a controller, with a vector, is "the highest raised, enabled IRQ request above those in service"
pub record Highest (v : Vics) (i : Inputs) (w : Which) (n vector : ℕ) : Type 0 where
  pub requests : Requests v i w n
  pub above : Above v (rank_of v w n)
  pub highest : (w' : Which) (n' : ℕ) → Requests v i w' n' → rank_of v w n ≤ rank_of v w' n'
  pub vector_is : vector ≡ vector_in (controller_of v w) n

pub record AnswerExactly : Type 0 where
  -- "The IRQ answer is the highest .. ,
  pub one : (v : Vics) → Sized v → (i : Inputs) (w : Which) (n a : ℕ) → irq v i ≡ request w n a → Highest v i w n a
  -- or none exactly if there is none."
  pub none : (v : Vics) → Sized v → (i : Inputs) → irq v i ≡ None → (w : Which) (n : ℕ) → Requests v i w n → Above v (rank_of v w n) → ⊥
  pub only : (v : Vics) → Sized v → (i : Inputs) → ((w : Which) (n : ℕ) → Requests v i w n → Above v (rank_of v w n) → ⊥) → irq v i ≡ None

-- no two requests have one rank, so that there is one highest
abbrev pub RanksApart : Type 0
RanksApart =
    (v : Vics) → Sized v → (w w' : Which) (n n' : ℕ) → n < 16 → n' < 16 → rank_of v w n ≡ rank_of v w' n' → (w ≡ w') × (n ≡ n')

-- 4.3: a request in service "masks out the current and any lower priority interrupt requests", and none above it: an answer above a rank
-- stays the answer with that rank in service too
pub record Masks : Type 0 where
  pub own_and_below : (v : Vics) → Sized v → (i : Inputs) (rank : ℕ) → InService v rank → (w : Which) (n a : ℕ) → irq v i ≡ request w n a
      → rank_of v w n < rank
  pub none_above : (v : Vics) → Sized v → (i : Inputs) (rank : ℕ) (w : Which) (n a : ℕ) → irq v i ≡ request w n a → rank_of v w n < rank
      → irq (with_service v (taken v.service rank)) i ≡ request w n a

-- "reading the current vector address takes the answer into service at its level then .. with none nothing changes": the answer is the one
-- that is asked for without taking it
pub record TakesAnswer : Type 0 where
  pub one : (v : Vics) → Sized v → (i : Inputs) (w : Which) (n a : ℕ) → irq v i ≡ request w n a
      → read v i Vic0 0x030 ≡ found a (with_service v (taken v.service (rank_of v w n)))
  pub none : (v : Vics) (i : Inputs) → irq v i ≡ None → read v i Vic0 0x030 ≡ found v.vic0.default v
