-- The two examples of proofs/Polling hold. Assumes nothing.
use Prim.Native.Nat.{ℕ, ◌<◌}
use mathlib.Core.Path.{◌≡◌, refl, sym, ◌∙◌}
use mathlib.Core.Bool.{false}
use mathlib.Core.List.{List, [], ◌∷◌}
use native.Mathlib.Omega.{arith}
use Rattle.memory.specs.Memory.{word, word_bytes, store}
use Rattle.window.specs.Window.{lent, in_window, holds_descriptor}
use Rattle.address.specs.Address.{apart, aligned, place_of, polls}
use Rattle.descriptor.specs.Descriptor.{count, next_enabled, start, next_word, next}
use Rattle.packet_status.specs.PacketStatus.{packet_status, granted, with_packet_status}
use Rattle.chain.specs.Buffer.{bytes_fault, buffer_fault}
use Rattle.chain.specs.Chain.{chain_number}
use Rattle.fcs.specs.Polynomial.{generator, remainder, register_bits, check_bits}
use Rattle.fcs.specs.CheckSequence.{check_number, check_sequence, check_right}
use Rattle.frame.specs.Length.{length_allowed}
use Rattle.reason.specs.Status.{delivered_status}
use Rattle.address_rule.specs.AddressRule.{first_met}
use Rattle.frame.specs.Frame.{frame_number_by}
use Rattle.ring_descriptors.specs.RingDescriptors.{sound_descriptor, regions_apart}
use Rattle.ring.specs.Ring.{apart_from_rest, ring_from, sound_ring}
use Rattle.engine.specs.Engine.{not_granted}
use Rattle.engine_write.specs.EngineWrite.{start_written}
use Rattle.outcomes.specs.Outcomes.{rx_refused, rx_advanced}
use Rattle.receiving.specs.Receiving.{receive_number, delivered}
use Rattle.receiving.specs.Receive as receiving
use Rattle.receiving.specs.Receive.{receive_at}
use Rattle.granting.specs.Granting as plain
use Rattle.granting.specs.Granting.{grant_number}
use Rattle.enet.specs.Frames.{grant, receive}
use Rattle.calls.specs.Calls.{Bench}
use Rattle.links.specs.Links.{follow}
use Rattle.steps.specs.Steps.{Step, after_steps}
use Rattle.steps.specs.Start.{in_order}
use Rattle.history.specs.Claim.{Passes, AllUsed, answer_at, Claim}
use Rattle.examples.proofs.Examples.{first, frame, granting, coming}
use Rattle.examples.proofs.Polling.{arrives, grants, before, till_grant, whole, unpolled_start, AtStart, unpolled_ring, InRing}

module _ (b : Bench) (steps : List Step) (pass : Passes b frame) (left : ¬ AllUsed (before b (till_grant steps)) arrives 0)
    (answer : answer_at (before b (till_grant steps)) arrives 0 ≡ 3) where
  fails : ¬ Claim b 1 first (whole steps)
  fails claim =
      let delivered = (claim.each (till_grant steps) [] arrives refl 0 (omega arith)).otherwise pass left in
      absurd (three (sym answer ∙ delivered))
    where
      three : ¬ (◌≡◌ {A = ℕ} 3 0)
      three e = omega arith

module _ (b : Bench) where
  none_granted : granted b.device.base b.memory (in_order b first 0) ≡ false
      → (k : ℕ) → k < 1 → granted b.device.base b.memory (in_order b first k) ≡ false
  none_granted e k l = let z : k ≡ 0 = omega arith in rw z e

both : AtStart × InRing
unfolding
    sound_ring ring_from apart_from_rest regions_apart sound_descriptor lent aligned in_window apart place_of polls follow
    count next_enabled start next_word next packet_status granted with_packet_status buffer_fault bytes_fault word word_bytes store
    frame frame_number_by length_allowed first_met check_right check_sequence check_number check_bits register_bits remainder generator
    receive receiving.receive receive_at receive_number chain_number rx_refused not_granted delivered delivered_status rx_advanced
    grant plain.grant grant_number holds_descriptor start_written after_steps
both = (
  (let b = unpolled_start in
      record {
        ring = refl;
        polling = refl;
        needs = record {
          receiving = refl;
          place = refl;
          sending = refl;
          returned = none_granted b refl;
          obeys = (coming b 1 first _ frame, (granting b 1 first _ first refl, (coming b 1 first _ frame, tt)));
          passes = refl;
          lost = refl;
          left = λ e. omega arith;
          answer = refl;
          no_claim = fails b [] refl (λ e. omega arith) refl;
        };
      }),
  (let b = unpolled_ring in
      record {
        ring = refl;
        with_bit = refl;
        polling = refl;
        needs = record {
          receiving = refl;
          place = refl;
          sending = refl;
          returned = none_granted b refl;
          obeys = (
            granting b 1 first _ first refl,
            (
              coming b 1 first _ frame,
              (coming b 1 first _ frame, (granting b 1 first _ first refl, (coming b 1 first _ frame, tt))),
            ),
          );
          passes = refl;
          lost = refl;
          left = λ e. omega arith;
          answer = refl;
          no_claim = fails b (grants ∷ arrives ∷ []) refl (λ e. omega arith) refl;
        };
      }),
)

pub at_start : AtStart
at_start = both.0

pub in_ring : InRing
in_ring = both.1
