-- The used data where it lies in the trace: the ways out of the code that looks at it there. Assumes nothing.
use Prim.Native.Nat.{ℕ, suc, ◌+◌, ◌*◌, ◌-◌, ◌/◌, ◌%◌, ◌≤◌, ◌<◌}
use mathlib.Core.Path.{◌≡◌, refl, sym, ◌∙◌}
use mathlib.Core.List.{List, [], ◌∷◌}
use native.Mathlib.Omega.{arith}
use lib.Dec.{eqb, ltb}
use lib.ListN.{length, get_or, drop, length-drop, get_or-eq_default}
use lib.Seq.{get_or-drop, drop-drop}
use borrow.Author.Tests.{lt-ltb, ltb-true, ltb-false, eqb-false}
use Rattle.memory.specs.Memory.{word}
use Rattle.event.specs.Front.{front}
use Rattle.event.specs.Sizes.{size_of, size_by}
use Rattle.rules.proofs.Choices.{by_bool}
use Rattle.event.specs.Walk.{walk, counted, ending_by}
use Rattle.event.specs.declared.Walked.{Walked}
use Rattle.event.specs.declared.Ending.{Ending}
use Rattle.event.proofs.Laws.{not_a_frame, size_from, Walking, walking_begins, walking_room, walking_on, walking_ends}
use Rattle.block.specs.Fields.{used_length}
use Rattle.stream.specs.Blocks.{block_at, block_count, Sound}
use Rattle.stream.specs.Stream.{stream, events_of}
use Rattle.stream.proofs.Sound.{right_at, length_last, byte_at}
use Rattle.stream.proofs.Laws.{count_most}
use Rattle.trace.specs.Scattered.{byte_in, word_in, size_in}

-- so many bytes behind, in one block
in_block : (p i : ℕ) → p % 504 + i < 504 → ((p + i) / 504 ≡ p / 504) × ((p + i) % 504 ≡ p % 504 + i)
in_block p i h = (omega arith, omega arith)

module _ (t : List ℕ) where
  pub byte_past : (p : ℕ) → length t ≤ p → 0 ≡ byte_in t p
  unfolding byte_in
  byte_past p h = sym (get_or-eq_default t 0 {n = 512 * (p / 504) + 4 + p % 504} (omega arith))

  pub byte_here : (p q r : ℕ) → q ≡ 512 * (p / 504) + 4 + p % 504 → r ≡ get_or t q 0 → r ≡ byte_in t p
  unfolding byte_in
  byte_here p q r h e = e ∙ rw h

  pub word_past : (p : ℕ) → length t ≤ p → 0 ≡ word_in t p
  unfolding word_in
  word_past p h =
      rw (← byte_past p h, ← byte_past (p + 1) (omega arith), ← byte_past (p + 2) (omega arith), ← byte_past (p + 3) (omega arith))

  -- four bytes of one block
  pub word_inside : (p at r : ℕ) → p % 504 ≤ 500 → at ≡ 512 * (p / 504) + 4 + p % 504 → r ≡ word t at → r ≡ word_in t p
  unfolding word_in word byte_in
  word_inside p at r h e f =
      let k₁ = in_block p 1 (omega arith) in
      let k₂ = in_block p 2 (omega arith) in
      let k₃ = in_block p 3 (omega arith) in
      let q = 512 * (p / 504) + 4 + p % 504 in
      let m₁ : q + 1 ≡ 512 * (p / 504) + 4 + (p % 504 + 1) = omega arith in
      let m₂ : q + 2 ≡ 512 * (p / 504) + 4 + (p % 504 + 2) = omega arith in
      let m₃ : q + 3 ≡ 512 * (p / 504) + 4 + (p % 504 + 3) = omega arith in
      f ∙ rw (e, k₁.0, k₁.1, k₂.0, k₂.1, k₃.0, k₃.1, m₁, m₂, m₃)

  pub word_here : (p a b c d r : ℕ) → a ≡ byte_in t p → b ≡ byte_in t (p + 1) → c ≡ byte_in t (p + 2) → d ≡ byte_in t (p + 3)
      → r ≡ word (a ∷ b ∷ c ∷ d ∷ []) 0 → r ≡ word_in t p
  unfolding word_in word
  word_here p a b c d r ea eb ec ed e = e ∙ rw (ea, eb, ec, ed)

  module _ (end p : ℕ) where
    pub size_past : end ≤ p → 0 ≡ size_in t end p
    unfolding size_in size_by
    size_past h = let e : end - p ≡ 0 = omega arith in rw e

    pub size_frame : (first four n : ℕ) → first ≡ byte_in t p → four ≡ word_in t (p + 1) → n ≡ size_by first four (end - p) → n ≡ size_in t end p
    unfolding size_in
    size_frame first four n a b e = e ∙ rw (a, b)

    pub size_other : (first n : ℕ) → first ≡ byte_in t p → (first ≡ 3 → ⊥) → n ≡ size_by first 0 (end - p) → n ≡ size_in t end p
    unfolding size_in
    size_other first n a h e = e ∙ not_a_frame first 0 (word_in t (p + 1)) (end - p) h ∙ rw a

-- ---- the events of sound blocks

none : (a b : ℕ) → size_by a b 0 ≡ 0
unfolding size_by
none a b = refl

-- of fewer than five bytes no event says how many it has
few : (first a b left : ℕ) → left < 5 → size_by first a left ≡ size_by first b left
unfolding size_by
few first a b left h = rw (lt-ltb left 5 h)

module _ (t : List ℕ) (g end : ℕ) (sound : Sound t g) (most : g ≤ block_count (length t)) (long : end ≡ length (stream t g)) where
  byte_there : (p : ℕ) → p < end → byte_in t p ≡ get_or (stream t g) p 0
  unfolding byte_in
  byte_there p l = sym (byte_at t g p sound most (omega arith))

  word_there : (p : ℕ) → p + 4 ≤ end → word_in t p ≡ word (stream t g) p
  unfolding word_in word
  word_there p l =
      rw (byte_there p (omega arith), byte_there (p + 1) (omega arith), byte_there (p + 2) (omega arith), byte_there (p + 3) (omega arith))

  size_there : (p : ℕ) → size_in t end p ≡ size_by (get_or (stream t g) p 0) (word (stream t g) (p + 1)) (end - p)
  unfolding size_in
  size_there p =
      by_bool (ltb p end)
      (λ u.
      let l = ltb-true p end u in
      by_bool (ltb (end - p) 5)
      (λ v. rw (byte_there p l) (few (get_or (stream t g) p 0) (word_in t (p + 1)) (word (stream t g) (p + 1)) (end - p) (ltb-true (end - p) 5 v)))
      (λ v.
      let m = ltb-false (end - p) 5 v in
      rw (byte_there p l, word_there (p + 1) (omega arith))))
      (λ u.
      let l = ltb-false p end u in
      let z : end - p ≡ 0 = omega arith in
      rw z (none (byte_in t p) (word_in t (p + 1)) ∙ sym (none (get_or (stream t g) p 0) (word (stream t g) (p + 1)))))

  -- the size of the event at a place of the events
  pub size_event : (place n : ℕ) → n ≡ size_in t end (6 + place) → n ≡ size_of (front (drop place (events_of (stream t g))))
  size_event place n e =
      rw (drop-drop place 6 (stream t g))
      (size_from (stream t g) (6 + place) (get_or (stream t g) (6 + place) 0) (word (stream t g) (6 + place + 1)) (end - (6 + place)) n refl refl
      (rw long) (e ∙ size_there (6 + place)))

-- ---- how many bytes the first blocks have

module _ (t : List ℕ) (g : ℕ) (pre : Sound t g × ((0 < g) × (g ≤ block_count (length t)))) where
  pub last_fits : 504 * (g - 1) ≤ length t
  last_fits =
      let a = pre.1.1 in
      let m = count_most (length t) in
      omega arith

  pub used_fits : (b : List ℕ) (used : ℕ) → b ≡ block_at t (g - 1) → used ≡ used_length b → used ≤ 504
  used_fits b used e u =
      let p = pre.1.0 in
      let r = (right_at t (g - 1) (pre.0 (g - 1) (omega arith))).fits in
      rw (u, e) r

  pub end_is : (b : List ℕ) (used : ℕ) → b ≡ block_at t (g - 1) → used ≡ used_length b → 504 * (g - 1) + used ≡ length (stream t g)
  end_is b used e u =
      let p = pre.1.0 in
      let q = pre.1.1 in
      let s : suc (g - 1) ≡ g = omega arith in
      let l : length (stream t (suc (g - 1))) ≡ 504 * (g - 1) + used_length (block_at t (g - 1)) =
      length_last t (g - 1) (λ k m. pre.0 k (omega arith)) (omega arith) in
      let l2 : length (stream t g) ≡ 504 * (g - 1) + used_length (block_at t (g - 1)) = rw s at l in
      rw (l2, u, e)

-- ---- the walk along the events where they lie

module _ (t : List ℕ) (g end : ℕ) (pre : (Sound t g × ((0 < g) × (g ≤ block_count (length t)))) × (6 ≤ length (stream t g))) (long : end ≡ length (stream t g)) where
  abbrev events_there : List ℕ
  events_there = events_of (stream t g)

  pub there_begins : (n : ℕ) → n ≡ size_in t end 6 → Walking events_there 0 0 n
  there_begins n e = walking_begins events_there n (size_event t g end pre.0.0 pre.0.1.1 long 0 n e)

  pub there_room : (place events n : ℕ) → Walking events_there place events n → (6 + (place + n) ≤ end) × (events ≤ place)
  there_room place events n i =
      let r = walking_room events_there place events n i in
      let l = length-drop 6 (stream t g) in
      let h = pre.1 in
      (omega arith, i.1.0)

  pub there_on : (place events n m : ℕ) → Walking events_there place events n → (n ≡ 0 → ⊥) → m ≡ size_in t end (6 + (place + n))
      → Walking events_there (place + n) (events + 1) m
  there_on place events n m i h e =
      walking_on events_there place events n m i h (size_event t g end pre.0.0 pre.0.1.1 long (place + n) m e)

  ending_there : (place : ℕ) → 6 + place ≤ end → ending_by (byte_in t (6 + place)) (end - 6 - place) ≡ ending_by (get_or events_there place 0) (length events_there - place)
  unfolding ending_by
  ending_there place l =
      let d = length-drop 6 (stream t g) in
      let same : end - 6 - place ≡ length events_there - place = omega arith in
      by_bool (eqb (length events_there - place) 0) (λ u. rw (same, u))
      (λ u.
      let v = eqb-false (length events_there - place) 0 u in
      let b = byte_there t g end pre.0.0 pre.0.1.1 long (6 + place) (omega arith) in
      rw (same, u, b, get_or-drop 6 (stream t g) place 0))

  pub there_ends : (place events n first : ℕ) (ending : Ending) → Walking events_there place events n → n ≡ 0 → first ≡ byte_in t (6 + place)
      → ending ≡ ending_by first (end - 6 - place)
      → ◌≡◌ {A = Walked} (record { place = place; events = events; ending = ending }) (counted (walk events_there))
  there_ends place events n first ending i z f e =
      let r = (there_room place events n i).0 in
      walking_ends events_there place events n (get_or events_there place 0) (length events_there - place) ending i z refl refl
      (e ∙ rw f (ending_there place (omega arith)))
