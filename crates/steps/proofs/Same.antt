-- A device and a memory that are the same in all that a list relies on. Assumes nothing.
use Prim.Native.Nat.{ℕ, ◌+◌, ◌≤◌, ◌<◌}
use mathlib.Core.Path.{refl}
use mathlib.Core.Logic.{◌⊎◌, inl, inr, ⊎_elim}
use mathlib.Core.List.{List, [], ◌∷◌}
use native.Mathlib.Omega.{arith}
use native.Mathlib.Decide.{dec_lt}
use lib.ListN.{length}
use Rattle.memory.specs.Memory.{store}
use Rattle.enet.specs.declared.Enet.{Enet}
use Rattle.registers.specs.Access.{register_at}
use Rattle.registers.specs.Registers.{with_status, with_enable}
use Rattle.counters.specs.declared.Counters.{Counters}
use Rattle.enet.specs.Device.{with_registers, with_counters}
use Rattle.enet.specs.Tick.{tick}
use Rattle.enet.proofs.Ways.{by_tick}
use Rattle.register_write.specs.Write.{written}
use Rattle.enet.specs.Access.{write}
use Rattle.calls.specs.Calls.{Bench, Call, call}
use Rattle.changes.specs.Regions.{Region, regions, Outside, SameOutside}
use Rattle.changes.proofs.Branches.{wrote, by_write}
use Rattle.changes.proofs.Memories.{stored}
use Rattle.changes.proofs.Nowhere.{changes_nowhere_else}
use Rattle.steps.specs.Steps.{firmware_write, done, Writes}
use Rattle.steps.specs.Start.{InterruptOnes, OutsideDescriptors}
use Rattle.steps.proofs.Places.{RingSound, desc_at}
use Rattle.steps.proofs.Held.{SameRing}
use Rattle.steps.proofs.Invariant.{SameDevice}

-- a device that differs in the interrupt registers and the counters alone
pub same_but_interrupts : (d : Enet) (isr ier : ℕ) (c : Counters)
    → SameDevice d (with_counters (with_registers d (with_enable (with_status d.registers isr) ier)) c)
same_but_interrupts d isr ier c = record {
  base = refl;
  window = refl;
  filter = refl;
  receiving = refl;
  place = refl;
  polling = refl;
  sending = refl;
}

pub same_device : (d : Enet) → SameDevice d d
same_device d = same_but_interrupts d d.registers.isr d.registers.ier d.counters

-- a write to an interrupt register
written_same : (d : Enet) (o v : ℕ) → InterruptOnes (o ∷ []) → SameDevice d (wrote d o (written d.registers (register_at o) v))
unfolding register_at
written_same d o v (inl e, _) = rw e (same_but_interrupts d d.registers.isr _ _)
written_same d o v (inr e, _) = rw e (same_but_interrupts d _ d.registers.ier _)

-- a register write that is permitted, or refused
pub write_same : (d : Enet) (o v : ℕ) → InterruptOnes (done (o ∷ []) (write d o v).number) → SameDevice d (write d o v).device
write_same d o v =
    by_write (λ a. InterruptOnes (done (o ∷ []) a.number) → SameDevice d a.device) d v
    (λ _. same_device d) (λ _. same_device d) o (written_same d o v)

-- a tick
pub tick_same : (d : Enet) (m : List ℕ) → SameDevice d (tick d m).device
tick_same d m =
    by_tick (λ a. SameDevice d a.device) d m
    (same_device d) (same_but_interrupts d _ _ _) (same_but_interrupts d _ _ _) (same_but_interrupts d _ _ _)

module _ (b : Bench) (n first : ℕ) (sound : RingSound b n first) where
  pub same_ring : (m : List ℕ) → SameRing b n first sound m m
  same_ring m = record { size = refl; bytes = λ k l i u. refl }

  -- memory that is the same outside regions that hold no byte of the ring's descriptors
  outside_ring : (rs : List Region) (m m' : List ℕ) → SameOutside rs m m'
      → ((k : ℕ) → k < n → (i : ℕ) → i < 16 → Outside (desc_at b first k + i) rs) → SameRing b n first sound m m'
  outside_ring rs m m' s out = record { size = s.size; bytes = λ k l i u. s.bytes (desc_at b first k + i) (out k l i u) }

  -- "memory changes nowhere else": a call whose regions hold none
  pub elsewhere : (x : Bench) (c : Call) → ((k : ℕ) → k < n → (i : ℕ) → i < 16 → Outside (desc_at b first k + i) (regions x c))
      → SameRing b n first sound x.memory (call x c).bench.memory
  elsewhere x c out = outside_ring (regions x c) x.memory (call x c).bench.memory (changes_nowhere_else.calls x c).memory out

  -- a write of bytes of which none is a descriptor's
  pub written_ring : (m : List ℕ) (at : ℕ) (bytes : List ℕ) → ((i : ℕ) → Writes (firmware_write at bytes) i → OutsideDescriptors b n first i)
      → SameRing b n first sound m (store m at bytes)
  unfolding desc_at
  written_ring m at bytes permit = outside_ring (region ∷ []) m (store m at bytes) (stored m at bytes []) (λ k l i u. (beside k l i u, tt))
    where
      region : Region
      region = record { from = at; size = length bytes }

      beside : (k : ℕ) → k < n → (i : ℕ) → i < 16 → (desc_at b first k + i < at) ⊎ (at + length bytes ≤ desc_at b first k + i)
      beside k l i u = go (dec_lt (desc_at b first k + i) at) (dec_lt (desc_at b first k + i) (at + length bytes))
        where
          go : Dec (desc_at b first k + i < at) → Dec (desc_at b first k + i < at + length bytes)
              → (desc_at b first k + i < at) ⊎ (at + length bytes ≤ desc_at b first k + i)
          go (yes x) y = inl x
          go (no x) (no y) = inr (omega arith)
          go (no x) (yes y) =
              let outside = permit (desc_at b first k + i) (omega arith, omega arith) k l in
              absurd (⊎_elim (λ a. omega arith) (λ a. omega arith) outside)
