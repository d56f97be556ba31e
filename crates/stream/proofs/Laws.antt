-- The ways out of this crate's functions, and the turns of their loops, as laws of the definitions. Assumes nothing.
use Prim.Native.Nat.{ℕ, zero, suc, ◌+◌, ◌*◌, ◌/◌, ◌%◌, ◌-◌, ◌≤◌, ◌<◌, min, max}
use mathlib.Core.Path.{◌≡◌, refl, sym, ap, ◌∙◌}
use mathlib.Core.List.{List, [], ◌∷◌, ◌++◌}
use native.Mathlib.Omega.{arith}
use native.Mathlib.Numerals.{add-one}
use lib.Dec.{eqb}
use lib.ListN.{length, take, drop, length-take, length-drop, length-append, drop_of_length-le}
use lib.Seq.{take_all}
use borrow.Author.Tests.{eq-eqb, ne_eqb, eqb-true, eqb-false}
use Rattle.answer.specs.declared.Refusal.{Refusal}
use Rattle.answer.specs.Refusals.{refusal_number}
use Rattle.answer.proofs.Laws.{not_done}
use Rattle.memory.specs.Memory.{store}
use Rattle.memory.proofs.Stores.{length_store, store_append}
use Rattle.block.specs.Fields.{used_length, data_of, used_data}
use Rattle.block.specs.Faults.{block_fault}
use Rattle.stream.specs.Blocks.{block_at, block_count, is_last, fault_at, Fault, first_fault}
use Rattle.stream.specs.Stream.{stream, events_of, event_bytes}
use Rattle.rules.proofs.Choices.{by_bool}

-- ---- how many blocks

pub count_is : (bytes : ℕ) → max (bytes / 512 + min 1 (bytes % 512)) 1 ≡ block_count bytes
unfolding block_count
count_is bytes =
    by_bool (eqb bytes 0)
    (λ t.
    let z = eqb-true bytes 0 t in
    rw t (omega arith))
    (λ t.
    let some = eqb-false bytes 0 t in
    rw t (omega arith))

pub count_least : (bytes : ℕ) → 1 ≤ block_count bytes
unfolding block_count
count_least bytes =
    by_bool (eqb bytes 0) (λ t. rw t (omega arith))
    (λ t.
    let h = eqb-false bytes 0 t in
    rw t (omega arith))

pub count_most : (bytes : ℕ) → block_count bytes ≤ bytes / 512 + 1
unfolding block_count
count_most bytes = by_bool (eqb bytes 0) (λ t. rw t (omega arith)) (λ t. rw t (omega arith))

-- ---- the block at a place

pub block_past : (t r : List ℕ) (k : ℕ) → length t / 512 < k → r ≡ take 512 (drop (length t) t) → r ≡ block_at t k
unfolding block_at
block_past t r k h e = e ∙ rw (drop_of_length-le t {i = length t} (omega arith), drop_of_length-le t {i = 512 * k} (omega arith))

pub block_here : (t r : List ℕ) (k : ℕ) → r ≡ take 512 (drop (512 * k) t) → r ≡ block_at t k
unfolding block_at
block_here t r k e = e

-- ---- its fault

pub fault_here : (t b : List ℕ) (k blocks n : ℕ) → blocks ≡ block_count (length t) → b ≡ block_at t k → n ≡ block_fault (eqb k (blocks - 1)) k b
    → n ≡ fault_at t k
unfolding fault_at is_last
fault_here t b k blocks n c e f =
    let l = count_least (length t) in
    let same : eqb k (blocks - 1) ≡ eqb (k + 1) (block_count (length t)) =
    by_bool (eqb (k + 1) (block_count (length t)))
    (λ u. let v = eqb-true (k + 1) (block_count (length t)) u in rw u (eq-eqb k (blocks - 1) (omega arith)))
    (λ u. let v = eqb-false (k + 1) (block_count (length t)) u in rw u (ne_eqb k (blocks - 1) (λ q. v (omega arith)))) in
    f ∙ rw (same, e)

-- ---- the first fault: k blocks are behind

abbrev pub Testing : List ℕ → ℕ → ℕ → Type 0
Testing t blocks k = (k ≤ blocks) × (first_fault t k (blocks - k) ≡ first_fault t 0 blocks)

pub testing_begins : (t : List ℕ) (blocks : ℕ) → Testing t blocks 0
testing_begins t blocks = let e : blocks - 0 ≡ blocks = omega arith in (omega arith, rw e)

pub testing_on : (t : List ℕ) (blocks k n : ℕ) → Testing t blocks k → k < blocks → n ≡ fault_at t k → n ≡ 0 → Testing t blocks (k + 1)
unfolding first_fault
testing_on t blocks k n i l f z =
    let e : blocks - k ≡ suc (blocks - (k + 1)) = omega arith in
    let w : first_fault t k (suc (blocks - (k + 1))) ≡ first_fault t 0 blocks = rw e at i.1 in
    (omega arith, rw (eq-eqb (fault_at t k) 0 (sym f ∙ z)) at w)

pub testing_stops : (t : List ℕ) (blocks k : ℕ) (refusal : Refusal) → blocks ≡ block_count (length t) → Testing t blocks k → k < blocks
    → refusal_number refusal ≡ fault_at t k
    → ◌≡◌ {A = Fault} (record { number = refusal_number refusal; block = k }) (first_fault t 0 (block_count (length t)))
unfolding first_fault
testing_stops t blocks k refusal b i l f =
    let e : blocks - k ≡ suc (blocks - (k + 1)) = omega arith in
    let w : first_fault t k (suc (blocks - (k + 1))) ≡ first_fault t 0 blocks = rw e at i.1 in
    let h = eqb-false (refusal_number refusal) 0 (not_done refusal) in
    rw (← b, f) (rw (ne_eqb (fault_at t k) 0 (λ q. h (f ∙ q))) at w)

pub testing_ends : (t : List ℕ) (blocks k : ℕ) → blocks ≡ block_count (length t) → Testing t blocks k → blocks ≤ k
    → ◌≡◌ {A = Fault} (record { number = 0; block = blocks }) (first_fault t 0 (block_count (length t)))
unfolding first_fault
testing_ends t blocks k b i l =
    let most = i.0 in
    let e : blocks - k ≡ 0 = omega arith in
    let q : k ≡ blocks = omega arith in
    let w : first_fault t k 0 ≡ first_fault t 0 blocks = rw e at i.1 in
    rw (← b) (ap (λ j. record { number = 0; block = j }) (sym q) ∙ w)

-- ---- the used data of a block

pub used_here : (t b d u : List ℕ) (k n : ℕ) → b ≡ block_at t k → d ≡ take 504 (drop 4 b) → n ≡ used_length b → u ≡ take n (drop 0 d) → u ≡ used_data (block_at t k)
unfolding used_data data_of
used_here t b d u k n e f g h = h ∙ rw (f, g, e)

pub used_most : (b : List ℕ) → length (used_data b) ≤ 504
unfolding used_data data_of
used_most b = rw (length-take (used_length b) (take 504 (drop 4 b)), length-take 504 (drop 4 b)) (omega arith)

-- all of it that is no header
pub block_copied : (t u part room next : List ℕ) (k at h bytes : ℕ) → u ≡ used_data (block_at t k) → at ≡ bytes - 6 → h ≡ 6 - bytes → part ≡ take 504 (drop h u)
    → next ≡ store room at part
    → (length u ≡ length (used_data (block_at t k))) × (next ≡ store room (bytes - 6) (drop (6 - bytes) (used_data (block_at t k))))
block_copied t u part room next k at h bytes eu ea eh ep en =
    let m = used_most (block_at t k) in
    let all : take 504 (drop h u) ≡ drop h u = take_all 504 (drop h u) (rw (length-drop h u, eu) (omega arith)) in
    (rw eu, en ∙ rw (ep, all, ea, eh, eu))

-- ---- the events, copied: k blocks are behind, and so many bytes of used data

drop_append : (n : ℕ) (a b : List ℕ) → drop n (a ++ b) ≡ drop n a ++ drop (n - length a) b
drop_append zero a b = let e : 0 - length a ≡ 0 = omega arith in rw e
drop_append (suc n) [] b = let e : suc n - 0 ≡ suc n = omega arith in rw e
drop_append (suc n) (x ∷ a) b = let e : suc n - suc (length a) ≡ n - length a = omega arith in rw e (drop_append n a b)

pub record Copying (t m : List ℕ) (blocks : ℕ) (room : List ℕ) (bytes k : ℕ) : Type 0 where
  pub most : k ≤ blocks
  pub long : bytes ≡ length (stream t k)
  pub few : bytes ≤ 504 * k
  pub copied : room ≡ store m 0 (events_of (stream t k))

module _ (t m : List ℕ) (blocks : ℕ) where
  pub copying_begins : Copying t m blocks m 0 0
  unfolding stream store
  copying_begins = record { most = omega arith; long = refl; few = omega arith; copied = refl }

  pub copying_on : (room next : List ℕ) (bytes k n : ℕ) → Copying t m blocks room bytes k → k < blocks → (n ≡ length (used_data (block_at t k)))
      × (next ≡ store room (bytes - 6) (drop (6 - bytes) (used_data (block_at t k)))) → Copying t m blocks next (bytes + n) (k + 1)
  unfolding stream
  copying_on room next bytes k n i l e =
      let u = used_data (block_at t k) in
      let en = e.0 in
      let long = i.long in
      let few = i.few in
      let um = used_most (block_at t k) in
      let a = length-append (stream t k) u in
      let dl = length-drop 6 (stream t k) in
      let put : next ≡ store m 0 (events_of (stream t k) ++ drop (6 - length (stream t k)) u) =
      e.1 ∙ rw (i.copied, long) (store_append m 0 (length (stream t k) - 6) (events_of (stream t k)) (drop (6 - length (stream t k)) u) (omega arith)) in
      rw (add-one k)
      (record { most = omega arith; long = omega arith; few = omega arith; copied = rw (drop_append 6 (stream t k) u) put })

  pub copying_fits : (room : List ℕ) (bytes k n : ℕ) → Copying t m blocks room bytes k → k < blocks → blocks ≡ block_count (length t)
      → n ≡ length (used_data (block_at t k)) → bytes + n ≤ 504 * (length t / 512 + 1)
  copying_fits room bytes k n i l b e =
      let few = i.few in
      let most = count_most (length t) in
      let um = used_most (block_at t k) in
      omega arith

  pub copying_ends : (room : List ℕ) (bytes k : ℕ) → Copying t m blocks room bytes k → blocks ≤ k → blocks ≡ block_count (length t) → room ≡ store m 0 (event_bytes t)
  unfolding event_bytes
  copying_ends room bytes k i l e =
      let a = i.most in
      let q : block_count (length t) ≡ k = omega arith in
      rw q i.copied

  pub copying_length : (room : List ℕ) (bytes k : ℕ) → Copying t m blocks room bytes k → length room ≡ length m
  copying_length room bytes k i = ap length i.copied ∙ length_store m 0 (events_of (stream t k))
