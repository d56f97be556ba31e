-- The walk along a list, turn by turn: the code goes from place to place, and what is ahead of it is a walk again. Assumes nothing.
use Prim.Native.Nat.{ℕ, zero, suc, ◌+◌, ◌-◌, ◌≤◌, ◌<◌}
use mathlib.Core.Path.{◌≡◌, refl, sym, ap, ◌∙◌}
use mathlib.Core.Bool.{Bool, true, false}
use mathlib.Core.List.{List}
use native.Mathlib.Omega.{arith}
use native.Mathlib.Nat.{add-zero, zero-add}
use lib.Dec.{eqb}
use lib.ListN.{length, get_or, drop, length-drop}
use lib.Seq.{get_or-drop, drop-drop}
use borrow.Author.Tests.{eq-eqb, ne_eqb, eqb-true, eqb-false}
use Rattle.std.specs.Prelude.{if◌then◌else◌}
use Rattle.memory.specs.Memory.{word}
use Rattle.memory.proofs.Parts.{word_from}
use Rattle.event.specs.Event.{size}
use Rattle.event.specs.Front.{Front, whole, cut, no_event, front}
use Rattle.event.specs.Sizes.{size_of, begins, size_by}
use Rattle.event.specs.Walk.{Walk, before, behind, walks, walk, counted, ending_by}
use Rattle.event.specs.declared.Walked.{Walked}
use Rattle.event.specs.declared.Ending.{Ending}
use Rattle.event.specs.declared.Ending.TheVariants.{Cut, NoEvent}
use Rattle.rules.proofs.Choices.{by_bool}
use Rattle.event.proofs.Fronts.{front_of_none, front_part, part_of, size_is, size_fits}

-- ---- a list from a place on

pub byte_from : (s : List ℕ) (p : ℕ) → get_or (drop p s) 0 0 ≡ get_or s p 0
byte_from s p = get_or-drop p s 0 0 ∙ rw (add-zero p)

-- the size of what stands at a place, by the bytes there
pub size_from : (s : List ℕ) (p first four left n : ℕ) → first ≡ get_or s p 0 → four ≡ word s (p + 1) → left ≡ length s - p → n ≡ size_by first four left
    → n ≡ size_of (front (drop p s))
size_from s p first four left n a b c d =
    d ∙ rw (a, b, c, ← byte_from s p, ← word_from s p 1, ← length-drop p s) (size_is (drop p s))

-- and it lies in the list
pub size_room : (s : List ℕ) (p n : ℕ) → n ≡ size_of (front (drop p s)) → p ≤ length s → p + n ≤ length s
size_room s p n e h =
    let fits = size_fits (drop p s) in
    let l = length-drop p s in
    omega arith

-- the four bytes behind the first count for a frame alone
pub not_a_frame : (first a b left : ℕ) → (first ≡ 3 → ⊥) → size_by first a left ≡ size_by first b left
unfolding size_by
not_a_frame first a b left h = rw (ne_eqb first 3 h)

pub size_other_from : (s : List ℕ) (p first left n : ℕ) → first ≡ get_or s p 0 → (first ≡ 3 → ⊥) → left ≡ length s - p → n ≡ size_by first 0 left
    → n ≡ size_of (front (drop p s))
size_other_from s p first left n a h c d =
    size_from s p first (word s (p + 1)) left n a refl c (d ∙ not_a_frame first 0 (word s (p + 1)) left h)

pub none_from : (s : List ℕ) (p : ℕ) → length s ≤ p → 0 ≡ size_of (front (drop p s))
none_from s p h =
    let e : length (drop p s) ≡ 0 = length-drop p s ∙ omega arith in
    rw (front_of_none (drop p s) e)

-- ---- turn by turn

-- what was walked before, and a walk ahead
abbrev pub ahead : ℕ → ℕ → Walked → Walked
ahead place events w = record { place = place + w.place; events = events + w.events; ending = w.ending }

same : (a b c d : ℕ) (e : Ending) → a ≡ b → c ≡ d
    → ◌≡◌ {A = Walked} (record { place = a; events = c; ending = e }) (record { place = b; events = d; ending = e })
same a b c d e p q = λ i. record { place = p i; events = q i; ending = e }

module _ (s : List ℕ) (f place events : ℕ) where
  one : (x : Front) (w : (List ℕ → Walk)) → (size_of x ≡ 0 → ⊥)
      → ahead place events (counted (before x (w (behind x s)))) ≡ ahead (place + size_of x) (events + 1) (counted (w (drop (size_of x) s)))
  one (whole e) w h = same _ _ _ _ _ (omega arith) (omega arith)
  one cut w h = absurd (h refl)
  one no_event w h = absurd (h refl)

  -- an event more
  pub turn : (n : ℕ) → n ≡ size_of (front s) → (n ≡ 0 → ⊥)
      → ahead place events (counted (walks (suc f) s)) ≡ ahead (place + n) (events + 1) (counted (walks f (drop n s)))
  unfolding walks
  turn n e h =
      let some : length s ≡ 0 → ⊥ = λ q. h (e ∙ rw (front_of_none s q)) in
      rw (ne_eqb (length s) 0 some, e) (one (front s) (walks f) (λ q. h (e ∙ q)))

-- no event more
abbrev pub stopped : Ending → Walked
stopped ending = record { place = 0; events = 0; ending = ending }

empty_stops : (f : ℕ) (s : List ℕ) → length s ≡ 0 → counted (walks f s) ≡ stopped (ending_by (get_or s 0 0) (length s))
unfolding walks ending_by
empty_stops zero s e = rw (eq-eqb (length s) 0 e)
empty_stops (suc f) s e = rw (eq-eqb (length s) 0 e)

part_stops : (f : ℕ) (s : List ℕ) → 0 < length s → size_of (front s) ≡ 0 → counted (walks (suc f) s) ≡ stopped (ending_by (get_or s 0 0) (length s))
unfolding walks ending_by part_of
part_stops f s l h =
    let some : length s ≡ 0 → ⊥ = λ q. omega arith in
    rw (ne_eqb (length s) 0 some, front_part s l h) (by_part (begins (get_or s 0 0)) (walks f))
  where
    by_part : (t : Bool) (w : List ℕ → Walk)
        → counted (before (if t then cut else no_event) (w (behind (if t then cut else no_event) s))) ≡ stopped (if t then Cut else NoEvent)
    by_part true w = refl
    by_part false w = refl

pub stop : (f : ℕ) (s : List ℕ) → length s ≤ f → size_of (front s) ≡ 0 → counted (walks f s) ≡ stopped (ending_by (get_or s 0 0) (length s))
stop zero s l h = empty_stops zero s (omega arith)
stop (suc f) s l h =
    by_bool (eqb (length s) 0) (λ t. empty_stops (suc f) s (eqb-true (length s) 0 t))
    (λ t.
    let some = eqb-false (length s) 0 t in
    part_stops f s (omega arith) h)

-- ---- the loop of the walk: at a place, so many events before it

abbrev pub Walking : List ℕ → ℕ → ℕ → ℕ → Type 0
Walking s place events n =
    (n ≡ size_of (front (drop place s)))
    × ((events ≤ place) × ((place ≤ length s) × (ahead place events (counted (walks (length s - events) (drop place s))) ≡ counted (walk s))))

pub walking_begins : (s : List ℕ) (n : ℕ) → n ≡ size_of (front (drop 0 s)) → Walking s 0 0 n
walking_begins s n e =
    let f : length s - 0 ≡ length s = omega arith in
    (e, (omega arith, (omega arith, rw f (same _ _ _ _ _ (zero-add _) (zero-add _)))))

pub walking_room : (s : List ℕ) (place events n : ℕ) → Walking s place events n → place + n ≤ length s
walking_room s place events n i = size_room s place n i.0 i.1.1.0

pub walking_on : (s : List ℕ) (place events n m : ℕ) → Walking s place events n → (n ≡ 0 → ⊥) → m ≡ size_of (front (drop (place + n) s))
    → Walking s (place + n) (events + 1) m
walking_on s place events n m i h e =
    let room = walking_room s place events n i in
    let k = i.0 in
    let a = i.1.0 in
    let f : length s - events ≡ suc (length s - (events + 1)) = omega arith in
    let t = turn (drop place s) (length s - (events + 1)) place events n k h in
    (e, (omega arith, (omega arith, sym (rw (← drop-drop n place s) t) ∙ (rw f at i.1.1.1))))

pub walking_ends : (s : List ℕ) (place events n first left : ℕ) (ending : Ending) → Walking s place events n → n ≡ 0 → first ≡ get_or s place 0 → left ≡ length s - place
    → ending ≡ ending_by first left → ◌≡◌ {A = Walked} (record { place = place; events = events; ending = ending }) (counted (walk s))
walking_ends s place events n first left ending i z a b c =
    let l = length-drop place s in
    let k = i.1.0 in
    let e : stopped (ending_by (get_or (drop place s) 0 0) (length (drop place s))) ≡ stopped ending =
    rw (byte_from s place, l, ← a, ← b, c) in
    let q = stop (length s - events) (drop place s) (omega arith) (sym i.0 ∙ z) ∙ e in
    same _ _ _ _ ending (sym (add-zero place)) (sym (add-zero events)) ∙ ap (λ (w : Walked). ahead place events w) (sym q) ∙ i.1.1.1

-- ---- the whole events lie in the list

pub place_fits : (f : ℕ) (s : List ℕ) → (counted (walks f s)).place ≤ length s
unfolding walks
place_fits zero s = omega arith
place_fits (suc f) s =
    by_bool (eqb (length s) 0) (λ t. rw t (omega arith)) (λ t. rw t (by_front (place_fits f) (front s) (size_fits s)))
  where
    by_front : ((s : List ℕ) → (counted (walks f s)).place ≤ length s) → (x : Front) → size_of x ≤ length s → (counted (before x (walks f (behind x s)))).place ≤ length s
    by_front rest (whole e) h =
        let i = rest (drop (size e) s) in
        let l = length-drop (size e) s in
        omega arith
    by_front rest cut h = omega arith
    by_front rest no_event h = omega arith
