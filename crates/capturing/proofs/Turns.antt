-- A day captured event by event, as the code goes through its bytes. Assumes nothing.
use Prim.Native.Nat.{ℕ, suc, ◌+◌, ◌≤◌}
use mathlib.Core.Path.{◌≡◌, refl, sym, ap, ◌∙◌}
use mathlib.Core.Bool.{false}
use mathlib.Core.List.{List}
use native.Mathlib.Numerals.{add-one}
use native.Mathlib.Omega.{arith}
use lib.ListN.{length, take, drop}
use lib.Seq.{drop-drop}
use Rattle.event.specs.Event.{Event, register_write, grant, frame, send, size}
use Rattle.event.specs.Front.{Front, whole, cut, no_event, front, found}
use Rattle.event.specs.Sizes.{size_of}
use Rattle.event.specs.Walk.{walk}
use Rattle.event.specs.declared.Found.{Found}
use Rattle.event.proofs.Ahead.{walk_on}
use Rattle.event.proofs.Laws.{size_room}
use Rattle.enet.specs.declared.Answered.{Answered}
use Rattle.enet.specs.Device.{new}
use Rattle.playback.specs.declared.Acted.{Acted}
use Rattle.playback.specs.Playing.{bench_of, acting, act_as}
use Rattle.playback.proofs.Laws.{frame_there}
use Rattle.playback.proofs.Turns.{walk_ends}
use Rattle.capturing.specs.declared.Kept.{Kept}
use Rattle.capturing.specs.declared.Day.{Day}
use Rattle.capturing.specs.Capturing.{kept, Capturing, capturing, keep_found, step, capture_all, next, begun}

-- ---- one event

pub event_captured : (day : Day) (k : Kept) (m m' out out' l l' list sent : List ℕ) (i : ℕ) (f g : Found) (r : Acted) → f ≡ g
    → acting r m' out' ≡ act_as (bench_of day.device m) out list f → sent ≡ take r.count (drop 0 out')
    → kept k l' ≡ keep_found (kept day.kept l) i list f r.number sent
    → capturing (record { device = r.device; kept = k }) m' out' l' ≡ next (capturing day m out l) i list g
unfolding next
event_captured day k m m' out out' l l' list sent i f g r e h s q =
    let k₁ : kept k l' ≡ keep_found (kept day.kept l) i list f r.number (take r.count out') = rw s at q in
    rw (← e)
    (λ j.
    record {
      bench = (h j).bench;
      output = (h j).output;
      listing = (k₁ ∙ (λ t. keep_found (kept day.kept l) i list f (h t).number (take (h t).count (h t).output))) j;
    })

-- ---- the event at a place

found_is : (c : Capturing) (list : List ℕ) (place i : ℕ) (e : Event) → front (drop place list) ≡ whole e
    → next c i list (found place (front (drop place list))) ≡ step c i e
unfolding next
found_is c list place i (register_write offset value) h = rw h
found_is c list place i (grant address) h = rw h
found_is c list place i (frame bytes) h = rw (h, frame_there list place bytes h)
found_is c list place i send h = rw h

turn : (c : Capturing) (list : List ℕ) (place i : ℕ) (e : Event) → front (drop place list) ≡ whole e
    → capture_all c i (walk (drop place list)).events
    ≡ capture_all (next c i list (found place (front (drop place list)))) (suc i) (walk (drop (place + size e) list)).events
unfolding capture_all
turn c list place i e h = rw (walk_on (drop place list) e h, found_is c list place i e h, drop-drop (size e) place list)

none_left : (c : Capturing) (i : ℕ) (s : List ℕ) → size_of (front s) ≡ 0 → capture_all c i (walk s).events ≡ c
unfolding capture_all
none_left c i s h = rw (walk_ends (length s) s h)

-- ---- the loop: what is captured from a place on gives what all of it gives from the start

pub record Going (start : Capturing) (list : List ℕ) (place i n : ℕ) (c : Capturing) : Type 0 where
  pub here : n ≡ size_of (front (drop place list))
  pub few : i ≤ place
  pub inside : place ≤ length list
  pub same : capture_all c i (walk (drop place list)).events ≡ capture_all start 0 (walk list).events

module _ (start : Capturing) (list : List ℕ) where
  pub going_begins : (n : ℕ) → n ≡ size_of (front (drop 0 list)) → Going start list 0 0 n start
  going_begins n e = record { here = e; few = omega arith; inside = omega arith; same = refl }

  module _ (place i n : ℕ) (c : Capturing) (g : Going start list place i n c) where
    pub going_room : place + n ≤ length list
    going_room = size_room list place n g.here g.inside

    pub going_on : (c' : Capturing) (m : ℕ) → (n ≡ 0 → ⊥) → c' ≡ next c i list (found place (front (drop place list)))
        → m ≡ size_of (front (drop (place + n) list)) → Going start list (place + n) (i + 1) m c'
    going_on c' m some q e =
        let few = g.few in
        record { here = e; few = omega arith; inside = going_room; same = rw (add-one i) (by_front (front (drop place list)) refl) }
      where
        by_front : (x : Front) → front (drop place list) ≡ x → capture_all c' (suc i) (walk (drop (place + n) list)).events ≡ capture_all start 0 (walk list).events
        by_front (whole v) k =
            let is : n ≡ size v = g.here ∙ ap size_of k in
            rw (q, is) (sym (turn c list place i v k) ∙ g.same)
        by_front cut k = absurd (some (g.here ∙ ap size_of k))
        by_front no_event k = absurd (some (g.here ∙ ap size_of k))

    pub going_ends : n ≡ 0 → c ≡ capture_all start 0 (walk list).events
    going_ends z = sym (none_left c i (drop place list) (sym g.here ∙ z)) ∙ g.same

-- ---- a new bench

pub all_captured : (base window : ℕ) (made : Answered) (m out l : List ℕ) (es : List Event) (x : Capturing) → made ≡ new base window
    → x ≡ capture_all (capturing (record { device = made.device; kept = record { bytes = 0; full = false } }) m out l) 0 es
    → x ≡ capture_all (begun base window m out l) 0 es
all_captured base window made m out l es x e h = h ∙ rw e
