-- 01, "Histories", and 02, Wish 5: where a list starts, and what the firmware may do in it. Assumes nothing.
use Rattle.std.specs.Prelude.{ℕ, suc, ◌+◌, ◌≤◌, ◌<◌, ◌≡◌, ◌⊎◌, true, false, List, [], ◌∷◌, length}
use Rattle.window.specs.Window.{offset}
use Rattle.packet_status.specs.PacketStatus.{granted}
use Rattle.ring.specs.Ring.{sound_ring}
use Rattle.links.specs.Links.{follow}
use Rattle.calls.specs.Calls.{Bench}
use Rattle.steps.specs.Steps.{Step, step, grants_of, registers_of, Writes, Progress, after_step}

-- "ring order follows the next words": descriptor k in it, "the first descriptor first", counted from 0, and round again from
-- the ring's number on
abbrev pub in_order : Bench → ℕ → ℕ → ℕ
in_order b first k = follow b.device.base b.memory k first

-- "The list starts where .."
pub record Start (b : Bench) (number first : ℕ) : Type 0 where
  -- "the ring check says yes", so that the one memory has the window's length
  pub ring : sound_ring b.device.base b.device.window b.memory number first ≡ true
  -- "receiving runs"
  pub receiving : b.device.registers.rx.running ≡ true
  -- "with its place at the first descriptor"
  pub place : b.device.registers.rx.place ≡ first
  -- 02, Wish 5: "Demand 3 is read with polling enabled for the starting place"
  pub polling : b.device.registers.rx.polling ≡ true
  -- "sending does not run"
  pub sending : b.device.registers.tx.running ≡ false
  -- "every descriptor of the ring is returned for receiving"
  pub returned : (k : ℕ) → k < number → granted b.device.base b.memory (in_order b first k) ≡ false

-- "no register but the interrupt ones": enable, 04h, and status, 08h
abbrev pub InterruptOnes : List ℕ → Type 0
InterruptOnes [] = Unit {0}
InterruptOnes (register ∷ registers) = ((register ≡ 0x04) ⊎ (register ≡ 0x08)) × InterruptOnes registers

-- what the firmware may do in a list that started from b, where p is what the list has done before the step. "Refused grant
-- calls and register writes may have any arguments", and so may all other calls
module _ (b : Bench) (number first : ℕ) where
  -- these descriptors are those in ring order from number k on
  abbrev pub InRingOrder : ℕ → List ℕ → Type 0
  InRingOrder k [] = Unit {0}
  InRingOrder k (address ∷ addresses) = (address ≡ in_order b first k) × InRingOrder (suc k) addresses

  -- "window bytes outside the ring's descriptors", by their offset into the window
  abbrev pub OutsideDescriptors : ℕ → Type 0
  OutsideDescriptors i =
      (k : ℕ) → k < number
      → (i < offset b.device.base (in_order b first k)) ⊎ (offset b.device.base (in_order b first k) + 16 ≤ i)

  pub record Permitted (p : Progress) (s : Step) : Type 0 where
    -- "The firmware grants only in ring order, the first descriptor first, and only returned descriptors": the latter asks
    -- nothing more, for the call answers 14 to a granted one
    pub grants : InRingOrder (length p.grants) (grants_of s (step p.bench s).number)
    -- ".. writes no other byte of the ring's descriptors .."
    pub bytes : (i : ℕ) → Writes s i → OutsideDescriptors i
    -- ".. and no register but the interrupt ones"
    pub registers : InterruptOnes (registers_of s (step p.bench s).number)

  -- every step of a list is permitted where it is made
  abbrev pub Obeys : Progress → List Step → Type 0
  Obeys p [] = Unit {0}
  Obeys p (s ∷ steps) = Permitted p s × Obeys (after_step p s) steps
