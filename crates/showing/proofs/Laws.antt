-- The events of a list, shown one behind the other, are the events that are played. Assumes nothing.
use Prim.Native.Nat.{ℕ, ◌+◌, ◌≤◌}
use mathlib.Core.Path.{◌≡◌, refl, sym, ap, ◌∙◌}
use mathlib.Core.List.{List, ◌++◌}
use native.Mathlib.Omega.{arith}
use lib.ListN.{length, take, drop}
use lib.Seq.{drop-drop}
use Rattle.event.specs.Event.{Event, size}
use Rattle.event.specs.Front.{Front, whole, cut, no_event, front, found}
use Rattle.event.specs.Sizes.{size_of}
use Rattle.event.proofs.Ahead.{walk_on}
use Rattle.event.proofs.Laws.{size_room}
use Rattle.playback.specs.declared.Acted.{Acted}
use Rattle.playback.specs.Playing.{bench_of, acting, act_as, play}
use Rattle.playback.proofs.Laws.{act_at}
use Rattle.playback.proofs.Turns.{walk_ends}
use Rattle.event.specs.declared.Found.{Found}
use Rattle.day_lines.specs.declared.Day.{Day}
use Rattle.showing.specs.Showing.{Left, left, next, shown, shown_over}

-- ---- one event

pub event_left : (day : Day) (end : ℕ) (m m' out out' list : List ℕ) (f g : Found) (r : Acted) → f ≡ g
    → acting r m' out' ≡ act_as (bench_of day.device m) out list f
    → left (record { device = r.device; waiting = end }) m' out' ≡ next (left day m out) list g
event_left day end m m' out out' list f g r e h = rw (← e) (λ j. record { bench = (h j).bench; output = (h j).output })

-- ---- what is left to show

shown_turn : (l : Left) (list : List ℕ) (place : ℕ) (e : Event) → front (drop place list) ≡ whole e
    → shown l (drop place list) ≡ shown (next l list (found place (front (drop place list)))) (drop (place + size e) list)
unfolding shown play
shown_turn l list place e h = rw (walk_on (drop place list) e h, act_at l.bench l.output list place e h, drop-drop (size e) place list)

shown_none : (l : Left) (s : List ℕ) → size_of (front s) ≡ 0 → shown l s ≡ l
unfolding shown play
shown_none l s h = rw (walk_ends (length s) s h)

-- ---- the loop: what is shown from a place on gives what all of it gives from the start

abbrev pub Showing : Left → List ℕ → ℕ → ℕ → Left → Type 0
Showing start list place n l =
    (n ≡ size_of (front (drop place list))) × ((place ≤ length list) × (shown l (drop place list) ≡ shown start list))

module _ (start : Left) (list : List ℕ) where
  pub showing_begins : (n : ℕ) → n ≡ size_of (front (drop 0 list)) → Showing start list 0 n start
  showing_begins n e = (e, (omega arith, refl))

  module _ (place n : ℕ) (l : Left) where
    pub showing_room : Showing start list place n l → place + n ≤ length list
    showing_room h = size_room list place n h.0 h.1.0

    pub showing_on : (l' : Left) (m : ℕ) → Showing start list place n l → (n ≡ 0 → ⊥) → l' ≡ next l list (found place (front (drop place list)))
        → m ≡ size_of (front (drop (place + n) list)) → Showing start list (place + n) m l'
    showing_on l' m h some q e =
        (e, (showing_room h, by_front (front (drop place list)) refl))
      where
        by_front : (x : Front) → front (drop place list) ≡ x → shown l' (drop (place + n) list) ≡ shown start list
        by_front (whole v) k =
            let is : n ≡ size v = h.0 ∙ ap size_of k in
            rw (q, is) (sym (shown_turn l list place v k) ∙ h.1.1)
        by_front cut k = absurd (some (h.0 ∙ ap size_of k))
        by_front no_event k = absurd (some (h.0 ∙ ap size_of k))

    pub showing_ends : Showing start list place n l → n ≡ 0 → l ≡ shown start list
    showing_ends h z = sym (shown_none l (drop place list) (sym h.0 ∙ z)) ∙ h.1.1

-- ---- over lent memory

pub shown_over_lem : (day r : Day) (m l' out out' list : List ℕ) (lent k : ℕ) → take k m ≡ take lent m → drop k m ≡ drop lent m
    → left r l' out' ≡ shown (left day (take k m) out) list → left r (l' ++ drop k m) out' ≡ shown_over day m lent out list
unfolding shown_over
shown_over_lem day r m l' out out' list lent k seen kept h =
    let q : left r l' out' ≡ shown (left day (take lent m) out) list = rw seen at h in
    rw kept (λ j. record { bench = bench_of (q j).bench.device ((q j).bench.memory ++ drop lent m); output = (q j).output })
