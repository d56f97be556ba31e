-- The walk along a list, whatever the most events that it is allowed: the event at the front, and the walk behind it. Assumes nothing.
use Prim.Native.Nat.{ℕ, zero, suc, ◌-◌, ◌≤◌, ◌<◌}
use mathlib.Core.Path.{◌≡◌, refl, ap, ◌∙◌}
use mathlib.Core.List.{List}
use native.Mathlib.Omega.{arith}
use lib.Dec.{eqb}
use lib.ListN.{length, drop, length-drop}
use borrow.Author.Tests.{eq-eqb, ne_eqb}
use Rattle.rules.proofs.Choices.{by_bool}
use Rattle.event.specs.Event.{Event, register_write, grant, frame, send, size}
use Rattle.event.specs.Front.{Front, whole, cut, no_event, front}
use Rattle.event.specs.Sizes.{size_of}
use Rattle.event.specs.Walk.{before, behind, walks, walk}
use Rattle.event.proofs.Fronts.{front_of_none, size_fits}

some_size : (e : Event) → 0 < size e
some_size (register_write offset value) = omega arith
some_size (grant address) = omega arith
some_size (frame bytes) = omega arith
some_size send = omega arith

walks_enough : (f g : ℕ) (s : List ℕ) → length s ≤ f → length s ≤ g → walks f s ≡ walks g s
unfolding walks
walks_enough zero zero s a b = refl
walks_enough zero (suc g) s a b = rw (eq-eqb (length s) 0 (omega arith))
walks_enough (suc f) zero s a b = rw (eq-eqb (length s) 0 (omega arith))
walks_enough (suc f) (suc g) s a b =
    by_bool (eqb (length s) 0) (λ t. rw t) (λ t. rw t (by_front (front s) (size_fits s) (walks_enough f g)))
  where
    by_front : (x : Front) → size_of x ≤ length s → ((s : List ℕ) → length s ≤ f → length s ≤ g → walks f s ≡ walks g s)
        → before x (walks f (behind x s)) ≡ before x (walks g (behind x s))
    by_front (whole e) h rest =
        let p = some_size e in
        let l = length-drop (size e) s in
        rw (rest (drop (size e) s) (omega arith) (omega arith))
    by_front cut h rest = refl
    by_front no_event h rest = refl

walk_step : (f : ℕ) (s : List ℕ) (e : Event) → front s ≡ whole e → (length s ≡ 0 → ⊥) → walks (suc f) s ≡ before (whole e) (walks f (drop (size e) s))
unfolding walks
walk_step f s e h some = rw (ne_eqb (length s) 0 some, h)

-- the event at the front, and the walk behind it
pub walk_on : (s : List ℕ) (e : Event) → front s ≡ whole e → walk s ≡ before (whole e) (walk (drop (size e) s))
walk_on s e h =
    let p = some_size e in
    let is : size_of (front s) ≡ size e = ap size_of h in
    let some : length s ≡ 0 → ⊥ = λ z. let n : size_of (front s) ≡ 0 = ap size_of (front_of_none s z) in omega arith in
    let l : length s ≡ suc (length s - 1) = omega arith in
    let d = length-drop (size e) s in
    ap (λ (n : ℕ). walks n s) l
    ∙ walk_step (length s - 1) s e h some
    ∙ ap (before (whole e)) (walks_enough (length s - 1) (length (drop (size e) s)) (drop (size e) s) (omega arith) (omega arith))
