-- The places of a sound ring, in ring order: their descriptors and buffers as offsets into the memory. Assumes nothing.
use Prim.Native.Nat.{ℕ, ◌+◌, ◌≤◌, ◌<◌}
use mathlib.Core.Path.{◌≡◌, ap}
use mathlib.Core.Logic.{⊎_map, ◌≢◌}
use mathlib.Core.Bool.{true}
use mathlib.Core.List.{List}
use native.Mathlib.Omega.{arith}
use lib.ListN.{length}
use Rattle.memory.proofs.Stores.{Apart}
use Rattle.window.specs.Window.{offset}
use Rattle.descriptor.specs.Descriptor.{count, start}
use Rattle.ring.specs.Ring.{sound_ring}
use Rattle.calls.specs.Calls.{Bench}
use Rattle.steps.specs.Start.{in_order}
use Rattle.links.proofs.Sound.{Distant, whole, sound_at, distant_at, round, low}

-- place t's descriptor and buffer as offsets into the memory, and the buffer's size
unfoldable pub desc_at : Bench → ℕ → ℕ → ℕ
desc_at b first t = offset b.device.base (in_order b first t)

unfoldable pub buf_at : Bench → ℕ → ℕ → ℕ
buf_at b first t = offset b.device.base (start b.device.base b.memory (in_order b first t))

unfoldable pub size_at : Bench → ℕ → ℕ → ℕ
size_at b first t = count b.device.base b.memory (in_order b first t)

-- the ring check says yes
abbrev pub RingSound : Bench → ℕ → ℕ → Type 0
RingSound b n first = sound_ring b.device.base b.device.window b.memory n first ≡ true

-- a list that starts from b
module _ (b : Bench) (n first : ℕ) (sound : RingSound b n first) where
  abbrev base : ℕ
  base = b.device.base

  abbrev window : ℕ
  window = b.device.window

  abbrev m₀ : List ℕ
  m₀ = b.memory

  pub record Spot (t : ℕ) : Type 0 where
    pub fits : desc_at b first t + 16 ≤ length b.memory
    pub room : 1518 ≤ size_at b first t
    pub fits_buffer : buf_at b first t + size_at b first t ≤ length b.memory
    pub own : Apart (buf_at b first t) (size_at b first t) (desc_at b first t) 16

  pub spot : (t : ℕ) → Spot t
  unfolding desc_at buf_at size_at
  spot t =
      let w = whole base window m₀ n first sound in
      let g = sound_at base window m₀ n first sound t in
      let l = g.low in
      let lb = g.low_buffer in
      record { fits = omega arith; room = g.room; fits_buffer = omega arith; own = ⊎_map (λ a. omega arith) (λ a. omega arith) g.own }

  -- two places of one round: no two of their regions share a byte
  pub record Far (t u : ℕ) : Type 0 where
    pub descriptors : Apart (desc_at b first t) 16 (desc_at b first u) 16
    pub buffer_descriptor : Apart (buf_at b first t) (size_at b first t) (desc_at b first u) 16
    pub buffers : Apart (buf_at b first t) (size_at b first t) (buf_at b first u) (size_at b first u)

  far_of : (t u : ℕ) → Distant base window m₀ (in_order b first t) (in_order b first u) → Far t u
  unfolding desc_at buf_at size_at
  far_of t u c =
      let g = sound_at base window m₀ n first sound t in
      let h = sound_at base window m₀ n first sound u in
      let l = g.low in
      let lb = g.low_buffer in
      let k = h.low in
      let kb = h.low_buffer in
      record {
        descriptors = ⊎_map (λ a. omega arith) (λ a. omega arith) c.descriptors;
        buffer_descriptor = ⊎_map (λ a. omega arith) (λ a. omega arith) c.buffer_descriptor;
        buffers = ⊎_map (λ a. omega arith) (λ a. omega arith) c.buffers;
      }

  pub far : (t u : ℕ) → t ≢ u → t < u + n → u < t + n → Far t u
  far t u ne l k = far_of t u (distant_at base window m₀ n first sound t u ne l k)

  pub desc_round : (t : ℕ) → desc_at b first (t + n) ≡ desc_at b first t
  unfolding desc_at
  desc_round t = rw (round base window m₀ n first sound t)

  pub desc_low : (t : ℕ) → (k : ℕ) × ((k < n) × (desc_at b first t ≡ desc_at b first k))
  unfolding desc_at
  desc_low t = let w = low base window m₀ n first sound t in (w.0, (w.1.0, ap (offset base) w.1.1))
