-- A delivered frame lies in its buffer, and stays there while frames come and no grant is made: the frames behind it have no more
-- than the grants that were left, so they go to other places of one round. Assumes nothing.
use Prim.Native.Nat.{ℕ, ◌+◌, ◌≤◌, ◌<◌}
use mathlib.Core.Path.{◌≡◌, sym, ◌∙◌}
use mathlib.Core.Logic.{inl, inr, ⊎_elim, ⊎_map}
use mathlib.Core.List.{List}
use native.Mathlib.Omega.{arith}
use lib.ListN.{length, take, drop}
use Rattle.memory.specs.Memory.{word, word_bytes, store}
use Rattle.memory.proofs.Stores.{length_word_bytes, length_store, word_apart, word_back, part_apart, part_back}
use Rattle.window.specs.Window.{offset}
use Rattle.descriptor.specs.Descriptor.{start}
use Rattle.packet_status.specs.PacketStatus.{packet_status}
use Rattle.reason.specs.Status.{delivered_status}
use Rattle.reason.proofs.Laws.{status_fits}
use Rattle.address_rule.specs.AddressRule.{address_rule}
use Rattle.enet.specs.declared.Enet.{Enet}
use Rattle.links.proofs.Sound.{round}
use Rattle.calls.specs.Calls.{Bench}
use Rattle.steps.specs.Start.{in_order}
use Rattle.whole.specs.Whole.{LiesWhole}
use Rattle.steps.proofs.Places.{RingSound, desc_at, buf_at, spot, far}
use Rattle.steps.proofs.Invariant.{Inv}
use Rattle.steps.proofs.Now.{status_of, memory_after, some_now, start_now, buffer_inside}

-- the frame that went to place v lies there
pub record Lain (b : Bench) (first : ℕ) (m : List ℕ) (v : ℕ) (f : List ℕ) : Type 0 where
  pub bytes : take (length f) (drop (buf_at b first v) m) ≡ f
  pub status : word m (desc_at b first v + 12) ≡ status_of b f

module _ (b : Bench) (n first : ℕ) (sound : RingSound b n first) where
  -- a delivery lays its frame
  pub lain_new : {d : Enet} {m gs : List ℕ} {v : ℕ} → Inv b n first sound d m gs v → (f : List ℕ) → length f ≤ 1518
      → Lain b first (memory_after b first m v f) v f
  unfolding memory_after
  lain_new {d} {m} {gs} {v} i f short =
      let s = spot b n first sound v in
      let fits = s.fits in
      let room = s.room in
      let fits_buffer = s.fits_buffer in
      let long = i.held.long in
      let stored = store m (buf_at b first v) f in
      let whole = length_store m (buf_at b first v) f in
      let four = length_word_bytes (status_of b f) in
      record {
        bytes =
            part_apart stored (desc_at b first v + 12) (word_bytes (status_of b f)) (buf_at b first v) (length f)
            (⊎_map (λ a. omega arith) (λ a. omega arith) s.own)
            ∙ part_back m (buf_at b first v) f (omega arith);
        status = word_back stored (desc_at b first v + 12) (status_of b f) (status_fits _ (length f) (omega arith)) (omega arith);
      }

  -- a delivery to another place of the round leaves it
  pub lain_keep : (m : List ℕ) (v u : ℕ) (f g : List ℕ) → v < u → u < v + n → length f ≤ 1518 → length g ≤ 1518
      → Lain b first m v f → Lain b first (memory_after b first m u g) v f
  unfolding memory_after
  lain_keep m v u f g l k short short' x =
      let there = far b n first sound u v (λ e. omega arith) (omega arith) (omega arith) in
      let here = far b n first sound v u (λ e. omega arith) (omega arith) (omega arith) in
      let room = (spot b n first sound v).room in
      let room' = (spot b n first sound u).room in
      let stored = store m (buf_at b first u) g in
      let four = length_word_bytes (status_of b g) in
      record {
        bytes =
            part_apart stored (desc_at b first u + 12) (word_bytes (status_of b g)) (buf_at b first v) (length f)
            (⊎_map (λ a. omega arith) (λ a. omega arith) here.buffer_descriptor)
            ∙ part_apart m (buf_at b first u) g (buf_at b first v) (length f)
            (⊎_map (λ a. omega arith) (λ a. omega arith) here.buffers)
            ∙ x.bytes;
        status =
            word_apart stored (desc_at b first u + 12) (word_bytes (status_of b g)) (desc_at b first v + 12)
            (⊎_map (λ a. omega arith) (λ a. omega arith) here.descriptors)
            ∙ word_apart m (buf_at b first u) g (desc_at b first v + 12)
            (⊎_elim (λ a. inr (omega arith)) (λ a. inl (omega arith)) there.buffer_descriptor)
            ∙ x.status;
      }

  -- then it lies whole, in the words of the claim: its descriptor is one of the next round too, and so keeps its start address
  pub lies_still : {d : Enet} {m gs : List ℕ} {u : ℕ} (i : Inv b n first sound d m gs u) (v : ℕ) (f : List ℕ) → v < u → u ≤ v + n
      → length f ≤ 1518 → Lain b first m v f → LiesWhole (record { device = d; memory = m }) (in_order b first v) f
  unfolding packet_status buf_at desc_at
  lies_still {d} {m} {gs} {u} i v f l k short x =
      let some = some_now i in
      let e : start d.base m (in_order b first v) ≡ start b.device.base b.memory (in_order b first v) =
      rw (round b.device.base b.device.window b.memory n first sound v) at (start_now i (v + n) (omega arith) (omega arith)) in
      record {
        inside = rw e (buffer_inside i v (length f) short);
        bytes = (λ j. take (length f) (drop (offset (i.fixed.base j) (e j)) m)) ∙ x.bytes;
        status =
            (λ j. word m (offset (i.fixed.base j) (in_order b first v) + 12))
            ∙ x.status
            ∙ (λ j. delivered_status (address_rule (sym i.fixed.filter j) f) (length f));
      }
