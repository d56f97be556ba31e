-- Demand 3 speaks of the hash mode: on a ring of one a frame to a group whose bit is set finds no grant and is lost, and is delivered when it comes again
-- behind a grant; a frame to another group is turned away both times, and counts for neither. Assumes nothing.
use Rattle.std.specs.Prelude.{Some}
use Prim.Native.Nat.{ℕ}
use mathlib.Core.Path.{◌≡◌, refl}
use mathlib.Core.List.{List, [], ◌∷◌, ◌++◌}
use lib.ListN.{replicate}
use Rattle.memory.specs.Memory.{word, word_bytes, store}
use Rattle.window.specs.Window.{lent, in_window, holds_descriptor}
use Rattle.address.specs.Address.{apart, aligned, place_of, polls}
use Rattle.descriptor.specs.Descriptor.{count, next_enabled, start, next_word, next}
use Rattle.packet_status.specs.PacketStatus.{packet_status, granted, with_packet_status}
use Rattle.chain.specs.Buffer.{bytes_fault, buffer_fault}
use Rattle.fcs.specs.Polynomial.{generator, remainder, register_bits, check_bits}
use Rattle.fcs.specs.CheckSequence.{check_number, check_sequence, check_right}
use Rattle.hash.specs.Hash.{hash_index, hash_accepts}
use Rattle.reason.specs.Status.{delivered_status}
use Rattle.address_rule.specs.AddressRule.{first_met}
use Rattle.frame.specs.Length.{length_allowed}
use Rattle.frame.specs.Frame.{frame_number_by}
use Rattle.registers.specs.declared.Register.TheVariants.{Mcr, Mcla}
use Rattle.register_write.specs.Write.{written}
use Rattle.outcomes.specs.Outcomes.{rx_refused, rx_advanced}
use Rattle.receiving.specs.Receiving.{receive_number, delivered}
use Rattle.engine.specs.Engine.{not_granted}
use Rattle.engine_write.specs.EngineWrite.{start_written}
use Rattle.enet.specs.Device.{made}
use Rattle.enet.specs.Frames.{grant, receive}
use Rattle.chain.specs.Chain.{chain_number}
use Rattle.granting.specs.Granting as plain
use Rattle.granting.specs.Granting.{grant_number}
use Rattle.receiving.specs.Receive as receiving
use Rattle.receiving.specs.Receive.{receive_at}
use Rattle.calls.specs.Calls.{Bench, grant_call, receive_call}
use Rattle.links.specs.Links.{follow}
use Rattle.counters.specs.Counters as counters
use Rattle.steps.specs.Steps.{brings, Step, public_call, begin, after_steps}
use Rattle.steps.specs.Start.{Start, Obeys}
use Rattle.history.specs.Claim.{Passes, Lost, delivered_by, Claim}
use Rattle.history.proofs.Theorem.{demand3}
use Rattle.examples.proofs.Examples.{first, ring, granting, coming, ring_of_one}

-- the ring of one in mode 001b, receive-all off, with bit 3 of multicast hash low and no other
abbrev by_hash : Bench
by_hash = record {
  device = made first 1536 (written (written (ring 1).device.registers (Some Mcr) 0x0002_0000) (Some Mcla) 0x0000_0008) counters.reset;
  memory = (ring 1).memory;
}

-- a frame of 64 bytes to a group
abbrev frame_to : List ℕ → List ℕ
frame_to group = (group ++ replicate 54 0) ++ check_sequence (group ++ replicate 54 0)

-- to 01-80-C2-00-00-01, whose bit this is
unfoldable pub taken : List ℕ
taken = frame_to (0x01 ∷ 0x80 ∷ 0xc2 ∷ 0x00 ∷ 0x00 ∷ 0x01 ∷ [])

-- to 01-00-5E-00-00-01, which has bit 31 of multicast hash low
unfoldable pub turned : List ℕ
turned = frame_to (0x01 ∷ 0x00 ∷ 0x5e ∷ 0x00 ∷ 0x00 ∷ 0x01 ∷ [])

abbrev steps : List Step
steps =
    public_call (receive_call taken)
    ∷ public_call (receive_call turned)
    ∷ public_call (grant_call first)
    ∷ public_call (receive_call turned)
    ∷ public_call (receive_call taken)
    ∷ []

-- what demand 3 asks of the list, what the list does, and what demand 3 says of it
pub record HashExample : Type 0 where
  pub starts : Start by_hash 1 first
  pub obeys : Obeys by_hash 1 first (begin by_hash) steps
  pub passes : Passes by_hash taken
  pub turned_away : brings by_hash turned ≡ 6
  pub lost : Lost (begin by_hash) (public_call (receive_call taken)) 0
  pub counts : delivered_by (begin by_hash) steps ≡ 0 ∷ 0 ∷ 0 ∷ 1 ∷ []
  -- 64 bytes, taken as a group's: bit 27
  pub status : packet_status first (after_steps (begin by_hash) steps).bench.memory first ≡ 0x0800_0040
  pub claim : Claim by_hash 1 first steps

start_here : Start by_hash 1 first
unfolding start_written place_of polls
start_here = record {
  ring = ring_of_one.starts.ring;
  receiving = refl;
  place = refl;
  polling = refl;
  sending = refl;
  returned = ring_of_one.starts.returned;
}

all_permitted : Obeys by_hash 1 first (begin by_hash) steps
unfolding follow
all_permitted = (
  coming by_hash 1 first _ taken,
  (
    coming by_hash 1 first _ turned,
    (granting by_hash 1 first _ first refl, (coming by_hash 1 first _ turned, (coming by_hash 1 first _ taken, tt))),
  ),
)

pub a_group : HashExample
unfolding
    lent aligned in_window apart place_of polls follow
    count next_enabled start next_word next packet_status granted with_packet_status buffer_fault bytes_fault word word_bytes store
    taken turned frame_number_by length_allowed first_met hash_accepts hash_index
    check_right check_sequence check_number check_bits register_bits remainder generator
    receive receiving.receive receive_at receive_number chain_number rx_refused not_granted delivered delivered_status rx_advanced
    grant plain.grant grant_number holds_descriptor start_written after_steps delivered_by
a_group = record {
  starts = start_here;
  obeys = all_permitted;
  passes = refl;
  turned_away = refl;
  lost = refl;
  counts = refl;
  status = refl;
  claim = demand3 by_hash 1 first start_here steps all_permitted;
}
