-- The turns of a list of events are its calls one behind the other, with their answers put into the lent list; and a turn's event is
-- the next of the walk along the list. Assumes nothing.
use Prim.Native.Nat.{ℕ, zero, suc, ◌+◌, ◌-◌, ◌≤◌}
use mathlib.Core.Path.{◌≡◌, refl, sym, ap, ◌∙◌}
use mathlib.Core.List.{List, [], ◌∷◌}
use native.Mathlib.Numerals.{add-one}
use native.Mathlib.Omega.{arith}
use lib.Dec.{eqb}
use lib.ListN.{length, drop, set}
use lib.Seq.{sets, drop-drop}
use borrow.Author.Tests.{ne_eqb}
use Rattle.rules.proofs.Choices.{by_bool}
use Rattle.memory.specs.Memory.{store}
use Rattle.event.specs.Event.{Event, register_write, grant, frame, send, size}
use Rattle.event.specs.Front.{Front, whole, cut, no_event, front, found}
use Rattle.event.specs.Sizes.{size_of}
use Rattle.event.specs.Walk.{Walk, before, walks, walk}
use Rattle.event.proofs.Fronts.{front_of_none}
use Rattle.event.proofs.Laws.{Walking, walking_begins, walking_room, walking_on}
use Rattle.calls.specs.Calls.{Bench}
use Rattle.playback.specs.Playing.{Played, act, play, play_into}
use Rattle.playback.specs.Turns.{turn, turns_of}
use Rattle.playback.proofs.Laws.{act_at}

-- ---- the turns

-- what the events give, with their answers put into a list from place i on
abbrev placed : List ℕ → ℕ → Played → Played
placed a i p = record { answers = sets a i p.answers; bench = p.bench; output = p.output }

turns_are : (es : List Event) (b : Bench) (out a : List ℕ) (i : ℕ)
    → turns_of (record { answers = a; bench = b; output = out }) i es ≡ placed a i (play b out es)
unfolding turns_of play
turns_are [] b out a i = refl
turns_are (e ∷ es) b out a i = let x = act b out e in turns_are es x.bench x.output (set a i x.number) (suc i)

-- as many answers as events
pub length_play : (es : List Event) (b : Bench) (out : List ℕ) → length (play b out es).answers ≡ length es
unfolding play
length_play [] b out = refl
length_play (e ∷ es) b out = let x = act b out e in ap suc (length_play es x.bench x.output)

-- all of them, from the front of the lent list
pub turns_play : (b : Bench) (out a list : List ℕ)
    → turns_of (record { answers = a; bench = b; output = out }) 0 (walk list).events ≡ play_into a b out list
unfolding play_into store
turns_play b out a list = turns_are (walk list).events b out a 0

-- ---- the walk

-- no event more
none_before : (x : Front) (w : Walk) → size_of x ≡ 0 → (before x w).events ≡ []
none_before (whole (register_write offset value)) w h = absurd (omega arith)
none_before (whole (grant address)) w h = absurd (omega arith)
none_before (whole (frame bytes)) w h = absurd (omega arith)
none_before (whole send) w h = absurd (omega arith)
none_before cut w h = refl
none_before no_event w h = refl

pub walk_ends : (f : ℕ) (s : List ℕ) → size_of (front s) ≡ 0 → (walks f s).events ≡ []
unfolding walks
walk_ends zero s h = refl
walk_ends (suc f) s h = by_bool (eqb (length s) 0) (λ t. rw t) (λ t. rw t (none_before (front s) _ h))

-- the event at a place, and the walk behind it
module _ (p p' : Played) (list : List ℕ) (place f i n : ℕ) (size_is : n ≡ size_of (front (drop place list))) (some : n ≡ 0 → ⊥) where
  by_front : (x : Front) → front (drop place list) ≡ x → p' ≡ turn p i list (found place (front (drop place list)))
      → turns_of p' (suc i) (walks f (drop (place + n) list)).events ≡ turns_of p i (walks (suc f) (drop place list)).events
  unfolding walks turns_of turn
  by_front (whole e) h q =
      let k : n ≡ size e = size_is ∙ rw h in
      let l : length (drop place list) ≡ 0 → ⊥ = λ z. some (size_is ∙ rw (front_of_none (drop place list) z)) in
      rw (q, act_at p.bench p.output list place e h, ne_eqb (length (drop place list)) 0 l, h, k, ← drop-drop (size e) place list)
  by_front cut h q = absurd (some (size_is ∙ rw h))
  by_front no_event h q = absurd (some (size_is ∙ rw h))

turn_on : (p p' : Played) (list : List ℕ) (place f i n : ℕ) → n ≡ size_of (front (drop place list)) → (n ≡ 0 → ⊥)
    → p' ≡ turn p i list (found place (front (drop place list)))
    → turns_of p' (suc i) (walks f (drop (place + n) list)).events ≡ turns_of p i (walks (suc f) (drop place list)).events
turn_on p p' list place f i n e h q = by_front p p' list place f i n e h (front (drop place list)) refl q

-- ---- the loop: at a place, so many events before it, what is left of the day gives what all of it gives from its start

abbrev pub Playing : Played → List ℕ → ℕ → ℕ → ℕ → Played → Type 0
Playing start list place i n p =
    Walking list place i n × (turns_of p i (walks (length list - i) (drop place list)).events ≡ turns_of start 0 (walk list).events)

module _ (start : Played) (list : List ℕ) where
  pub playing_begins : (n : ℕ) → n ≡ size_of (front (drop 0 list)) → Playing start list 0 0 n start
  playing_begins n e =
      let l : length list - 0 ≡ length list = omega arith in
      (walking_begins list n e, rw l)

  module _ (place i n : ℕ) (p : Played) where
    pub playing_room : Playing start list place i n p → (place + n ≤ length list) × (i ≤ place)
    playing_room h = (walking_room list place i n h.0, h.0.1.0)

    pub playing_on : (p' : Played) (k : ℕ) → Playing start list place i n p → (n ≡ 0 → ⊥) → p' ≡ turn p i list (found place (front (drop place list)))
        → k ≡ size_of (front (drop (place + n) list)) → Playing start list (place + n) (i + 1) k p'
    playing_on p' k h some q e =
        let room = playing_room h in
        let l : length list - i ≡ suc (length list - (i + 1)) = omega arith in
        let t = turn_on p p' list place (length list - (i + 1)) i n h.0.0 some q in
        (walking_on list place i n k h.0 some e, (rw (add-one i) (rw (add-one i) at t)) ∙ (rw l at h.1))

    pub playing_ends : Playing start list place i n p → n ≡ 0 → p ≡ turns_of start 0 (walk list).events
    unfolding turns_of
    playing_ends h z = (rw (walk_ends (length list - i) (drop place list) (sym h.0.0 ∙ z)) at h.1)
