-- What holds of the memory all along, where v frames were delivered and g grants were made. Each write that a step makes
-- keeps it. Assumes nothing.
use Prim.Native.Nat.{ℕ, suc, ◌+◌, ◌^◌, ◌≤◌, ◌<◌}
use mathlib.Core.Path.{◌≡◌, ◌∙◌}
use mathlib.Core.Logic.{inl, inr, ⊎_elim, ⊎_map, ◌≢◌}
use mathlib.Core.Bool.{true, false}
use mathlib.Core.List.{List}
use native.Mathlib.Omega.{arith}
use native.Mathlib.Decide.{ℕ_discrete, dec_lt}
use lib.ListN.{length, get_or}
use Rattle.rules.specs.Bit.{bit}
use Rattle.memory.specs.Memory.{word, word_bytes, store, store_word}
use Rattle.memory.proofs.Stores.{Apart, length_word_bytes, length_store, word_apart, word_back}
use Rattle.packet_status.specs.PacketStatus.{granted_status}
use Rattle.calls.specs.Calls.{Bench}
use Rattle.memory.proofs.Stores.{word_same}
use Rattle.steps.proofs.Places.{RingSound, desc_at, buf_at, spot, far, desc_round, desc_low}

-- a list that starts from b
module _ (b : Bench) (n first : ℕ) (sound : RingSound b n first) where
  abbrev m₀ : List ℕ
  m₀ = b.memory

  abbrev desc : ℕ → ℕ
  desc t = desc_at b first t

  abbrev buf : ℕ → ℕ
  buf t = buf_at b first t

  pub record Held (m : List ℕ) (v g : ℕ) : Type 0 where
    pub long : length m ≡ length m₀
    -- the first three words of every descriptor are those of the start
    pub fixed : (t k : ℕ) → v ≤ t → t < v + n → k ≤ 8 → word m (desc t + k) ≡ word m₀ (desc t + k)
    -- the places from v on and before g are granted, and the others are returned
    pub ready : (t : ℕ) → v ≤ t → t < g → bit 16 (word m (desc t + 12)) ≡ true
    pub spent : (t : ℕ) → g ≤ t → t < v + n → bit 16 (word m (desc t + 12)) ≡ false
    pub order : v ≤ g
    pub few : g ≤ v + n

  -- memory of the same length, with the same bytes at the ring's descriptors
  pub record SameRing (m m' : List ℕ) : Type 0 where
    pub size : length m' ≡ length m
    pub bytes : (k : ℕ) → k < n → (i : ℕ) → i < 16 → get_or m' (desc_at b first k + i) 0 ≡ get_or m (desc_at b first k + i) 0

  -- it holds as much
  pub held_same : (m m' : List ℕ) (v g : ℕ) → SameRing m m' → Held m v g → Held m' v g
  held_same m m' v g s h =
      record {
        long = s.size ∙ h.long;
        fixed = λ t k l u i. same t k (omega arith) ∙ h.fixed t k l u i;
        ready = λ t l u. rw (same t 12 (omega arith)) (h.ready t l u);
        spent = λ t l u. rw (same t 12 (omega arith)) (h.spent t l u);
        order = h.order;
        few = h.few;
      }
    where
      at : (t k i : ℕ) → k ≤ 12 → i < 4 → get_or m' (desc t + k + i) 0 ≡ get_or m (desc t + k + i) 0
      at t k i l u =
          let w = desc_low b n first sound t in
          let e : desc w.0 + k + i ≡ desc w.0 + (k + i) = omega arith in
          rw (w.1.1, e) (s.bytes w.0 w.1.0 (k + i) (omega arith))

      same : (t k : ℕ) → k ≤ 12 → word m' (desc t + k) ≡ word m (desc t + k)
      same t k l = word_same m m' (desc t + k) (λ i u. at t k i l u)

  -- the next grant
  pub held_grant : (m : List ℕ) (v g : ℕ) → Held m v g → g < v + n → Held (store_word m (desc g + 12) granted_status) v (suc g)
  held_grant m v g h room =
      record {
        long = length_store m (desc g + 12) (word_bytes granted_status) ∙ h.long;
        fixed = λ t k l u i. fixed' t k l u i (ℕ_discrete t g) ∙ h.fixed t k l u i;
        ready = λ t l u. ready' t l u (ℕ_discrete t g);
        spent = λ t l u. rw (other t 12 (omega arith) (omega (arith, h.order)) u (omega arith)) (h.spent t (omega arith) u);
        order = omega (arith, h.order);
        few = room;
      }
    where
      after : List ℕ
      after = store_word m (desc g + 12) granted_status

      other : (t k : ℕ) → t ≢ g → v ≤ t → t < v + n → k ≤ 12 → word after (desc t + k) ≡ word m (desc t + k)
      other t k ne l u i =
          let o = h.order in
          let four = length_word_bytes granted_status in
          word_apart m (desc g + 12) (word_bytes granted_status) (desc t + k)
          (⊎_map (λ a. omega arith) (λ a. omega arith) (far b n first sound t g ne (omega arith) (omega arith)).descriptors)

      fixed' : (t k : ℕ) → v ≤ t → t < v + n → k ≤ 8 → Dec (t ≡ g) → word after (desc t + k) ≡ word m (desc t + k)
      fixed' t k l u i (yes e) = rw e (word_apart m (desc g + 12) (word_bytes granted_status) (desc g + k) (inl (omega arith)))
      fixed' t k l u i (no e) = other t k e l u (omega arith)

      ready' : (t : ℕ) → v ≤ t → t < suc g → Dec (t ≡ g) → bit 16 (word after (desc t + 12)) ≡ true
      ready' t l u (yes e) =
          let fits = (spot b n first sound g).fits in
          let long = h.long in
          rw (e, word_back m (desc g + 12) granted_status (omega arith) (omega arith))
      ready' t l u (no e) = rw (other t 12 e l (omega arith) (omega arith)) (h.ready t l (omega arith))

  -- the next delivery
  pub held_deliver : (m : List ℕ) (v g : ℕ) (f : List ℕ) (status : ℕ) → Held m v g → v < g → length f ≤ 1518
      → status < 2 ^ 32 → bit 16 status ≡ false
      → Held (store_word (store m (buf v) f) (desc v + 12) status) (suc v) g
  held_deliver m v g f status h some short small returned =
      record {
        long = length_store (store m (buf v) f) (desc v + 12) (word_bytes status) ∙ length_store m (buf v) f ∙ h.long;
        fixed = λ t k l u i. fixed' t k l u i (dec_lt t (v + n));
        ready = λ t l u. rw (other t 12 (omega arith) (omega (arith, h.few)) (omega arith)) (h.ready t (omega arith) u);
        spent = λ t l u. spent' t l u (dec_lt t (v + n));
        order = some;
        few = omega (arith, h.few);
      }
    where
      after : List ℕ
      after = store_word (store m (buf v) f) (desc v + 12) status

      -- neither the frame nor the status lies in words a descriptor of another place, nor in the first three of its own
      beside : (t k : ℕ) → Apart (desc t + k) 4 (desc v + 12) (length (word_bytes status)) → Apart (desc t + k) 4 (buf v) (length f)
          → word after (desc t + k) ≡ word m (desc t + k)
      beside t k a b = word_apart (store m (buf v) f) (desc v + 12) (word_bytes status) (desc t + k) a ∙ word_apart m (buf v) f (desc t + k) b

      other : (t k : ℕ) → v < t → t < v + n → k ≤ 12 → word after (desc t + k) ≡ word m (desc t + k)
      other t k l u i =
          let w = far b n first sound v t (omega arith) (omega arith) (omega arith) in
          let room = (spot b n first sound v).room in
          let four = length_word_bytes status in
          beside t k
          (⊎_elim (λ a. inr (omega arith)) (λ a. inl (omega arith)) w.descriptors)
          (⊎_elim (λ a. inr (omega arith)) (λ a. inl (omega arith)) w.buffer_descriptor)

      own : (k : ℕ) → k ≤ 8 → word after (desc v + k) ≡ word m (desc v + k)
      own k i =
          let room = (spot b n first sound v).room in
          beside v k (inl (omega arith)) (⊎_elim (λ a. inr (omega arith)) (λ a. inl (omega arith)) (spot b n first sound v).own)

      fixed' : (t k : ℕ) → suc v ≤ t → t < suc v + n → k ≤ 8 → Dec (t < v + n) → word after (desc t + k) ≡ word m₀ (desc t + k)
      fixed' t k l u i (yes o) = other t k l o (omega arith) ∙ h.fixed t k (omega arith) o i
      fixed' t k l u i (no o) =
          let e : t ≡ v + n = omega arith in
          rw (e, desc_round b n first sound v) (own k i ∙ h.fixed v k (omega arith) (omega (arith, h.few)) i)

      spent' : (t : ℕ) → g ≤ t → t < suc v + n → Dec (t < v + n) → bit 16 (word after (desc t + 12)) ≡ false
      spent' t l u (yes o) = rw (other t 12 (omega arith) o (omega arith)) (h.spent t l o)
      spent' t l u (no o) =
          let e : t ≡ v + n = omega arith in
          let fits = (spot b n first sound v).fits in
          let long = h.long in
          let whole = length_store m (buf v) f in
          rw (e, desc_round b n first sound v, word_back (store m (buf v) f) (desc v + 12) status small (omega arith)) returned
