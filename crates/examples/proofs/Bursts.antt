-- Demand 3 speaks of bursts: on a ring of two with two grants a burst of three frames, and of one pair outside the store, delivers,
-- delivers, answers 16 and loses. With an answer list that is too short it is refused, and brings no frame. Assumes nothing.
use Prim.Native.Nat.{ℕ}
use mathlib.Core.Path.{◌≡◌, refl}
use mathlib.Core.List.{List, [], ◌∷◌, ◌++◌}
use native.Mathlib.Omega.{arith}
use lib.ListN.{replicate}
use Rattle.memory.specs.Memory.{word, word_bytes, store}
use Rattle.window.specs.Window.{lent, in_window, holds_descriptor}
use Rattle.address.specs.Address.{apart, aligned, place_of, polls}
use Rattle.descriptor.specs.Descriptor.{count, next_enabled, start, next_word, next}
use Rattle.packet_status.specs.PacketStatus.{packet_status, granted, with_packet_status}
use Rattle.chain.specs.Buffer.{bytes_fault, buffer_fault}
use Rattle.fcs.specs.Polynomial.{generator, remainder, register_bits, check_bits}
use Rattle.fcs.specs.CheckSequence.{check_number, check_sequence, check_right}
use Rattle.frame.specs.Length.{length_allowed}
use Rattle.reason.specs.Status.{delivered_status}
use Rattle.address_rule.specs.AddressRule.{first_met}
use Rattle.frame.specs.Frame.{frame_number_by}
use Rattle.outcomes.specs.Outcomes.{rx_refused, rx_advanced}
use Rattle.receiving.specs.Receiving.{receive_number, delivered}
use Rattle.engine.specs.Engine.{not_granted}
use Rattle.engine_write.specs.EngineWrite.{start_written}
use Rattle.enet.specs.Frames.{grant, receive}
use Rattle.chain.specs.Chain.{chain_number}
use Rattle.granting.specs.Granting as plain
use Rattle.granting.specs.Granting.{grant_number}
use Rattle.receiving.specs.Receive as receiving
use Rattle.receiving.specs.Receive.{receive_at}
use Rattle.pair.specs.Pair.{passes, bytes_of, received}
use Rattle.burst.specs.Burst.{receives, refuses, burst, pairs_of, uneven, burst_of}
use Rattle.burst.specs.Taken.{taken, frames_inside, answers_inside}
use Rattle.calls.specs.Calls.{Bench, Call, grant_call, burst_call, call}
use Rattle.links.specs.Links.{follow}
use Rattle.steps.specs.Steps.{Step, public_call, frames_of, Progress, begin, after_steps}
use Rattle.steps.specs.Start.{in_order, Obeys}
use Rattle.whole.specs.Whole.{LiesWhole}
use Rattle.history.specs.Claim.{Lost, delivered_by, Claim}
use Rattle.history.proofs.Theorem.{demand3}
use Rattle.examples.proofs.Examples.{first, ring, frame, granting, ring_of_two}

-- ---- the list: both descriptors are granted, and the burst comes

-- another frame than the one of Examples: 59 zeros, a 1 and their check sequence
unfoldable pub other : List ℕ
other = replicate 59 0 ++ (1 ∷ []) ++ check_sequence (replicate 59 0 ++ (1 ∷ []))

-- a store of both frames, and four pairs of it: the one, the other, 64 bytes that pass the store's end by one, and the one again
abbrev burst_of_four : List ℕ → Call
burst_of_four answers = burst_call (frame ++ other) (0 ∷ 64 ∷ 65 ∷ 0 ∷ []) (64 ∷ 64 ∷ 64 ∷ 64 ∷ []) answers

abbrev the_burst : Call
the_burst = burst_of_four (99 ∷ 99 ∷ 99 ∷ 99 ∷ [])

-- the same with an answer list that is too short
abbrev refused_burst : Call
refused_burst = burst_of_four (99 ∷ 99 ∷ 99 ∷ [])

abbrev grants : List Step
grants = public_call (grant_call first) ∷ public_call (grant_call (in_order (ring 2) first 1)) ∷ []

abbrev steps : List Step
steps = grants ++ (public_call the_burst ∷ [])

-- the bench that the burst meets, and the one that it leaves
abbrev before : Progress
before = after_steps (begin (ring 2)) grants

abbrev after : Bench
after = (call before.bench the_burst).bench

-- what demand 3 asks of the list, what the burst answers, and what demand 3 says of its frames
pub record BurstExample : Type 0 where
  pub obeys : Obeys (ring 2) 2 first (begin (ring 2)) steps
  pub list : (call before.bench the_burst).list ≡ 0 ∷ 0 ∷ 16 ∷ 8 ∷ []
  pub brought : frames_of (public_call the_burst) ≡ frame ∷ other ∷ frame ∷ []
  pub counts : delivered_by (begin (ring 2)) steps ≡ 1 ∷ 2 ∷ 2 ∷ []
  pub lost : Lost before (public_call the_burst) 2
  pub claim : Claim (ring 2) 2 first steps
  -- each of the two delivered frames lies whole in its own buffer when the burst ends
  pub first_whole : LiesWhole after first frame
  pub second_whole : LiesWhole after (in_order (ring 2) first 1) other
  -- the refused burst
  pub refused : (call before.bench refused_burst).number ≡ 16
  pub unanswered : (call before.bench refused_burst).list ≡ 99 ∷ 99 ∷ 99 ∷ []
  pub unchanged : (call before.bench refused_burst).bench ≡ before.bench
  pub none : frames_of (public_call refused_burst) ≡ []

all_permitted : Obeys (ring 2) 2 first (begin (ring 2)) steps
unfolding
    follow place_of polls start_written grant plain.grant grant_number holds_descriptor lent aligned in_window granted packet_status with_packet_status word word_bytes store
all_permitted = (
  granting (ring 2) 2 first _ first refl,
  (
    granting (ring 2) 2 first _ _ refl,
    (record { grants = tt; bytes = λ i w. absurd w; registers = tt }, tt),
  ),
)

pub a_burst : BurstExample
unfolding
    lent aligned in_window apart place_of polls follow
    count next_enabled start next_word next packet_status granted with_packet_status buffer_fault bytes_fault word word_bytes store
    frame other frame_number_by length_allowed first_met check_right check_sequence check_number check_bits register_bits remainder generator
    receive receiving.receive receive_at receive_number chain_number rx_refused not_granted delivered delivered_status rx_advanced
    grant plain.grant grant_number holds_descriptor start_written after_steps delivered_by
    passes bytes_of received receives refuses burst pairs_of uneven burst_of taken frames_inside answers_inside
a_burst =
    let claim = demand3 (ring 2) 2 first ring_of_two.starts steps all_permitted in
    let met = claim.each grants [] (public_call the_burst) refl in
    record {
      obeys = all_permitted;
      list = refl;
      brought = refl;
      counts = refl;
      lost = refl;
      claim = claim;
      first_whole = ((met 0 (omega arith)).nth refl).1;
      second_whole = ((met 1 (omega arith)).nth refl).1;
      refused = refl;
      unanswered = refl;
      unchanged = refl;
      none = refl;
    }
