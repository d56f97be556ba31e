-- Demand 3 needs polling, for the starting place and in every descriptor (02, Wish 5): without it a frame is not delivered though a
-- grant was made in time after a loss. Its receive answers 3. What is claimed; proofs/Unpolled shows it.
use Prim.Native.Nat.{ℕ, ◌<◌}
use mathlib.Core.Path.{◌≡◌}
use mathlib.Core.Bool.{true, false}
use mathlib.Core.List.{List, [], ◌∷◌, ◌++◌}
use Rattle.packet_status.specs.PacketStatus.{granted}
use Rattle.ring.specs.Ring.{sound_ring}
use Rattle.calls.specs.Calls.{Bench, grant_call, receive_call}
use Rattle.steps.specs.Steps.{Step, public_call, Progress, begin, after_steps}
use Rattle.steps.specs.Start.{in_order, Obeys}
use Rattle.history.specs.Claim.{Passes, Lost, AllUsed, answer_at, Claim}
use Rattle.examples.proofs.Examples.{first, ring_with, frame}

-- ---- a list on a ring of one that ends with a frame

abbrev pub arrives : Step
arrives = public_call (receive_call frame)

abbrev pub grants : Step
grants = public_call (grant_call first)

-- what it has done before that frame
abbrev pub before : Bench → List Step → Progress
before b steps = after_steps (begin b) steps

-- these steps, then a frame that is lost, a grant, ..
abbrev pub till_grant : List Step → List Step
till_grant steps = steps ++ (arrives ∷ grants ∷ [])

-- .. and the frame again
abbrev pub whole : List Step → List Step
whole steps = till_grant steps ++ (arrives ∷ [])

-- All that demand 3 asks of the start holds but what it asks of polling, the list is permitted, a frame is lost, and a grant is left
-- when the same frame comes again. Its receive answers 3, so the claim does not hold of this list.
pub record NeedsPolling (b : Bench) (steps : List Step) : Type 0 where
  pub receiving : b.device.registers.rx.running ≡ true
  pub place : b.device.registers.rx.place ≡ first
  pub sending : b.device.registers.tx.running ≡ false
  pub returned : (k : ℕ) → k < 1 → granted b.device.base b.memory (in_order b first k) ≡ false
  pub obeys : Obeys b 1 first (begin b) (whole steps)
  pub passes : Passes b frame
  pub lost : Lost (before b steps) arrives 0
  pub left : ¬ AllUsed (before b (till_grant steps)) arrives 0
  pub answer : answer_at (before b (till_grant steps)) arrives 0 ≡ 3
  pub no_claim : ¬ Claim b 1 first (whole steps)

-- ---- polling is not enabled for the starting place: the first frame is lost, and receiving stops

abbrev pub unpolled_start : Bench
unpolled_start = ring_with 0 1 1

-- the ring check says yes, for the bit stands in the next word
pub record AtStart : Type 0 where
  pub ring : sound_ring unpolled_start.device.base unpolled_start.device.window unpolled_start.memory 1 first ≡ true
  pub polling : unpolled_start.device.registers.rx.polling ≡ false
  pub needs : NeedsPolling unpolled_start []

-- ---- polling is enabled for the starting place, and not in the descriptor: a frame is delivered, the next is lost, and receiving
-- stops

abbrev pub unpolled_ring : Bench
unpolled_ring = ring_with 1 0 1

pub record InRing : Type 0 where
  -- the ring check says no, and with the bit in the next word it says yes
  pub ring : sound_ring unpolled_ring.device.base unpolled_ring.device.window unpolled_ring.memory 1 first ≡ false
  pub with_bit : sound_ring unpolled_ring.device.base unpolled_ring.device.window (ring_with 1 1 1).memory 1 first ≡ true
  pub polling : unpolled_ring.device.registers.rx.polling ≡ true
  pub needs : NeedsPolling unpolled_ring (grants ∷ arrives ∷ [])
