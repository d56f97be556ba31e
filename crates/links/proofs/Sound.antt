-- What a ring check that says yes gives of every descriptor in ring order: a closed chain of descriptors, each with room for any
-- frame. Assumes nothing.
use Prim.Native.Nat.{ℕ, zero, suc, ◌+◌, ◌≤◌, ◌<◌}
use mathlib.Core.Path.{◌≡◌}
use mathlib.Core.Logic.{◌≢◌, ⊎_swap}
use mathlib.Core.Bool.{true, ◌&&◌}
use mathlib.Core.List.{List}
use native.Mathlib.Omega.{arith}
use native.Mathlib.Nat.{not-suc-le-zero}
use native.Mathlib.Decide.{dec_lt}
use lib.ListN.{length}
use borrow.Author.Tests.{leb-true, eqb-true}
use Rattle.rules.proofs.Choices.{and_parts}
use Rattle.memory.proofs.Stores.{Apart}
use Rattle.window.specs.Window.{lent}
use Rattle.address.specs.Address.{aligned, polls}
use Rattle.descriptor.specs.Descriptor.{count, next_enabled, start, next_word, next}
use Rattle.ring_descriptors.specs.RingDescriptors.{sound_descriptor, regions_apart}
use Rattle.ring.specs.Ring.{apart_from_rest, ring_from, sound_ring}
use Rattle.links.specs.Links.{follow, Clear, Closed}
use Rattle.window.proofs.Laws.{in_window_lem}
use Rattle.address.proofs.Laws.{apart_is}
use Rattle.links.proofs.Follow.{none_shared}
use Rattle.links.proofs.Rounds.{round_at, low_at, each_at, pair_at}

module _ (base window : ℕ) (m : List ℕ) where
  -- ---- a descriptor of the ring, and two of them

  pub record Sound (d : ℕ) : Type 0 where
    pub low : base ≤ d
    pub fits : d + 16 ≤ base + window
    pub linked : next_enabled base m d ≡ true
    pub polled : polls (next_word base m d) ≡ true
    pub room : 1518 ≤ count base m d
    pub flat : aligned (start base m d) ≡ true
    pub low_buffer : base ≤ start base m d
    pub fits_buffer : start base m d + count base m d ≤ base + window
    pub own : Apart (start base m d) (count base m d) d 16

  sound_is : (d : ℕ) → sound_descriptor base window m d ≡ true → Sound d
  unfolding sound_descriptor
  sound_is d e =
      let p = and_parts _ _ e in
      let q = and_parts _ _ p.0 in
      let r = and_parts _ _ q.0 in
      let s = and_parts _ _ r.0 in
      let u = and_parts _ _ s.0 in
      let t = and_parts _ _ p.1 in
      let i = in_window_lem base window d 16 u.0 in
      let j = in_window_lem base window (start base m d) (count base m d) t.0 in
      record {
        low = i.0;
        fits = i.1;
        linked = u.1;
        polled = s.1;
        room = leb-true _ _ r.1;
        flat = q.1;
        low_buffer = j.0;
        fits_buffer = j.1;
        own = apart_is _ _ _ _ t.1;
      }

  -- "no two of all these regions share a byte"
  pub record Distant (c d : ℕ) : Type 0 where
    pub descriptors : Apart c 16 d 16
    pub descriptor_buffer : Apart c 16 (start base m d) (count base m d)
    pub buffer_descriptor : Apart (start base m c) (count base m c) d 16
    pub buffers : Apart (start base m c) (count base m c) (start base m d) (count base m d)

  distant_is : (c d : ℕ) → regions_apart base m c d ≡ true → Distant c d
  unfolding regions_apart
  distant_is c d e =
      let p = and_parts _ _ e in
      let q = and_parts _ _ p.0 in
      let r = and_parts _ _ p.1 in
      record {
        descriptors = apart_is _ _ _ _ q.0;
        descriptor_buffer = apart_is _ _ _ _ q.1;
        buffer_descriptor = apart_is _ _ _ _ r.0;
        buffers = apart_is _ _ _ _ r.1;
      }

  distant_swap : (c d : ℕ) → Distant c d → Distant d c
  distant_swap c d x = record {
    descriptors = ⊎_swap x.descriptors;
    descriptor_buffer = ⊎_swap x.buffer_descriptor;
    buffer_descriptor = ⊎_swap x.descriptor_buffer;
    buffers = ⊎_swap x.buffers;
  }

  clear_of : {c d : ℕ} → Distant c d → Clear base m c d
  clear_of x = record {
    descriptor = λ i j l u. none_shared _ _ _ _ x.descriptors i j (omega arith) (omega arith);
    buffer = λ i j l u. none_shared _ _ _ _ x.descriptor_buffer i j (omega arith) (omega arith);
  }

  -- ---- the check's own clauses, as facts

  ring_suc : (first n d : ℕ) → ring_from base window m first (suc n) d ≡ true
      → ((sound_descriptor base window m d && apart_from_rest base m d n (next base m d)) ≡ true)
      × (ring_from base window m first n (next base m d) ≡ true)
  unfolding ring_from
  ring_suc first n d e =
      and_parts (sound_descriptor base window m d && apart_from_rest base m d n (next base m d)) (ring_from base window m first n (next base m d)) e

  ring_head : (first n d : ℕ) → ring_from base window m first (suc n) d ≡ true
      → (sound_descriptor base window m d ≡ true) × (apart_from_rest base m d n (next base m d) ≡ true)
  ring_head first n d e = and_parts (sound_descriptor base window m d) (apart_from_rest base m d n (next base m d)) (ring_suc first n d e).0

  rest_suc : (d n c : ℕ) → apart_from_rest base m d (suc n) c ≡ true
      → (regions_apart base m d c ≡ true) × (apart_from_rest base m d n (next base m c) ≡ true)
  unfolding apart_from_rest
  rest_suc d n c e = and_parts (regions_apart base m d c) (apart_from_rest base m d n (next base m c)) e

  sounds_of : (first n d : ℕ) → ring_from base window m first n d ≡ true → (k : ℕ) → k < n → Sound (follow base m k d)
  unfolding follow
  sounds_of first zero d e k l = absurd (not-suc-le-zero l)
  sounds_of first (suc n) d e zero l = sound_is d (ring_head first n d e).0
  sounds_of first (suc n) d e (suc k) l = sounds_of first n (next base m d) (ring_suc first n d e).1 k (omega arith)

  rest_of : (d n c : ℕ) → apart_from_rest base m d n c ≡ true → (k : ℕ) → k < n → Distant d (follow base m k c)
  unfolding follow
  rest_of d zero c e k l = absurd (not-suc-le-zero l)
  rest_of d (suc n) c e zero l = distant_is d c (rest_suc d n c e).0
  rest_of d (suc n) c e (suc k) l = rest_of d n (next base m c) (rest_suc d n c e).1 k (omega arith)

  distants_of : (first n d : ℕ) → ring_from base window m first n d ≡ true
      → (i j : ℕ) → i < j → j < n → Distant (follow base m i d) (follow base m j d)
  unfolding follow
  distants_of first zero d e i j l k = absurd (not-suc-le-zero k)
  distants_of first (suc n) d e i zero l k = absurd (not-suc-le-zero l)
  distants_of first (suc n) d e zero (suc j) l k = rest_of d n (next base m d) (ring_head first n d e).1 j (omega arith)
  distants_of first (suc n) d e (suc i) (suc j) l k =
      distants_of first n (next base m d) (ring_suc first n d e).1 i j (omega arith) (omega arith)

  again_of : (first n d : ℕ) → ring_from base window m first n d ≡ true → follow base m n d ≡ first
  unfolding follow ring_from
  again_of first zero d e = eqb-true _ _ e
  again_of first (suc n) d e = again_of first n (next base m d) (ring_suc first n d e).1

  -- ---- a ring check that says yes

  record Checked (n first : ℕ) : Type 0 where
    size : length m ≡ window
    least : 0 < n
    ring : ring_from base window m first n first ≡ true

  checked : (n first : ℕ) → sound_ring base window m n first ≡ true → Checked n first
  unfolding sound_ring lent
  checked n first sound =
      let p = and_parts _ _ sound in
      let q = and_parts _ _ p.0 in
      let r = and_parts _ _ q.0 in
      let s = and_parts _ _ r.0 in
      record { size = eqb-true _ _ s.0; least = leb-true 1 n s.1; ring = p.1 }

  module _ (n first : ℕ) (sound : sound_ring base window m n first ≡ true) where
    pub whole : length m ≡ window
    whole = (checked n first sound).size

    pub some : 0 < n
    some = (checked n first sound).least

    pub again : follow base m n first ≡ first
    again = again_of first n first (checked n first sound).ring

    sounds : (k : ℕ) → k < n → Sound (follow base m k first)
    sounds = sounds_of first n first (checked n first sound).ring

    distants : (i j : ℕ) → i < j → j < n → Distant (follow base m i first) (follow base m j first)
    distants = distants_of first n first (checked n first sound).ring

    -- a sound ring is a closed chain
    pub sound_closed : Closed base m n first
    sound_closed = record {
      chain = record { some = some; linked = λ k l. (sounds k (omega arith)).linked; clear = λ i j l u ne. clear_of (go i j l u ne (dec_lt i j)) };
      last = λ k e. (sounds k (omega arith)).linked;
      again = again;
    }
      where
        go : (i j : ℕ) → i < n → j < n → i ≢ j → Dec (i < j) → Distant (follow base m i first) (follow base m j first)
        go i j l u ne (yes h) = distants i j h u
        go i j l u ne (no h) = distant_swap _ _ (distants j i (omega arith) l)

    -- every place of it, and two places of one round
    pub sound_at : (t : ℕ) → Sound (follow base m t first)
    sound_at = each_at base m n first some again Sound sounds

    pub distant_at : (s t : ℕ) → s ≢ t → s < t + n → t < s + n → Distant (follow base m s first) (follow base m t first)
    distant_at s t ne l u = go (dec_lt s t)
      where
        pair : (i j : ℕ) → i < j → j < i + n → Distant (follow base m i first) (follow base m j first)
        pair = pair_at base m n first some again Distant distant_swap distants

        go : Dec (s < t) → Distant (follow base m s first) (follow base m t first)
        go (yes h) = pair s t h u
        go (no h) = distant_swap _ _ (pair t s (omega arith) l)

    pub round : (t : ℕ) → follow base m (t + n) first ≡ follow base m t first
    round = round_at base m n first some again

    pub low : (t : ℕ) → (k : ℕ) × ((k < n) × (follow base m t first ≡ follow base m k first))
    low = low_at base m n first some again
