-- One event, by the cases of what the code found, and what it is in the list. Assumes nothing.
use Prim.Native.Nat.{ℕ, ◌+◌, ◌≤◌}
use mathlib.Core.Path.{◌≡◌, refl}
use mathlib.Core.List.{List, []}
use native.Mathlib.Omega.{arith}
use lib.Dec.{eqb, ltb}
use lib.ListN.{length, get_or, take, drop, set, length-take, length-drop}
use lib.Seq.{drop-drop}
use borrow.Author.Tests.{ltb-false}
use Rattle.rules.proofs.Choices.{by_test}
use Rattle.memory.specs.Memory.{word}
use Rattle.event.specs.Event.{Event, register_write, grant, frame, send}
use Rattle.event.specs.Front.{Front, whole, cut, no_event, frame_front, front, found}
use Rattle.event.specs.declared.Found.{Found}
use Rattle.event.specs.declared.Found.TheVariants.{RegisterWrite, Grant, Frame, Send}
use Rattle.enet.specs.declared.Enet.{Enet}
use Rattle.enet.specs.declared.Answered.{Answered}
use Rattle.enet.specs.declared.Sent.{Sent}
use Rattle.enet.specs.Device.{outcome}
use Rattle.enet.specs.Access.{write}
use Rattle.enet.specs.Frames.{grant as granted, receive}
use Rattle.enet.specs.Send.{sending, send as sent}
use Rattle.calls.specs.Calls.{Bench}
use Rattle.playback.specs.declared.Acted.{Acted}
use Rattle.playback.specs.Playing.{bench_of, acting, act, act_as, played}
use Rattle.playback.specs.Turns.{turn}

-- ---- the calls, by case

abbrev pub silent : Answered → Acted
silent a = record { number = a.number; count = 0; device = a.device }

module _ (d : Enet) (m m' out list : List ℕ) (f : Found) (r : Acted) where
  pub act_write : (offset value : ℕ) (a : Answered) → f ≡ RegisterWrite offset value → a ≡ write d offset value → r ≡ silent a
      → acting r m out ≡ act_as (bench_of d m) out list f
  unfolding act
  act_write offset value a e h q = rw (q, e, ← h)

  pub act_grant : (address : ℕ) (a : Answered) → f ≡ Grant address → outcome a m' ≡ granted d m address → r ≡ silent a
      → acting r m' out ≡ act_as (bench_of d m) out list f
  unfolding act
  act_grant address a e h q = rw (q, e, ← h)

  pub act_frame : (start n : ℕ) (s : List ℕ) (a : Answered) → f ≡ Frame start n → s ≡ take n (drop start list) → outcome a m' ≡ receive d m s
      → r ≡ silent a → acting r m' out ≡ act_as (bench_of d m) out list f
  unfolding act
  act_frame start n s a e p h q = rw (q, e, ← p, ← h)

pub act_send : (d : Enet) (m m' out out' list : List ℕ) (f : Found) (s : Sent) → f ≡ Send → sending s m' out' ≡ sent d m out
    → acting (record { number = s.number; count = s.count; device = s.device }) m' out' ≡ act_as (bench_of d m) out list f
unfolding act
act_send d m m' out out' list f s e h = rw (e, ← h)

-- ---- what stands at a place

-- the bytes of a frame at the front
abbrev frame_in : Front → List ℕ
frame_in (whole (register_write offset value)) = []
frame_in (whole (grant address)) = []
frame_in (whole (frame bytes)) = bytes
frame_in (whole send) = []
frame_in cut = []
frame_in no_event = []

-- they stand behind its first byte and their number
frame_in_lem : (s : List ℕ) → take (length (frame_in (front s))) (drop 5 s) ≡ frame_in (front s)
unfolding front frame_front
frame_in_lem s =
    by_test There (eqb (length s) 0) _ _ (λ t. refl)
    (λ t.
    by_test There (eqb (get_or s 0 0) 1) _ _ (λ u. by_test There (ltb (length s) 9) _ _ (λ v. refl) (λ v. refl))
    (λ u.
    by_test There (eqb (get_or s 0 0) 2) _ _ (λ v. by_test There (ltb (length s) 5) _ _ (λ w. refl) (λ w. refl))
    (λ v.
    by_test There (eqb (get_or s 0 0) 3) _ _
    (λ w.
    by_test There (ltb (length s) 5) _ _ (λ x. refl)
    (λ x.
    by_test There (ltb (length s) (5 + word s 1)) _ _ (λ y. refl)
    (λ y.
    let l : 5 + word s 1 ≤ length s = ltb-false (length s) (5 + word s 1) y in
    let e : length (take (word s 1) (drop 5 s)) ≡ word s 1 = simp (length-take, length-drop) (omega arith) in
    rw e)))
    (λ w. by_test There (eqb (get_or s 0 0) 4) _ _ (λ x. refl) (λ x. refl)))))
  where
    There : Front → Type 0
    There x = take (length (frame_in x)) (drop 5 s) ≡ frame_in x

-- so a frame that is found at a place has its bytes there
pub frame_there : (list : List ℕ) (place : ℕ) (bytes : List ℕ) → front (drop place list) ≡ whole (frame bytes)
    → take (length bytes) (drop (place + 5) list) ≡ bytes
frame_there list place bytes h =
    let k : take (length bytes) (drop 5 (drop place list)) ≡ bytes = rw h at (frame_in_lem (drop place list)) in
    rw (← drop-drop 5 place list) k

-- what the code finds at a place where a whole event stands is that event's call
pub act_at : (b : Bench) (out list : List ℕ) (place : ℕ) (e : Event) → front (drop place list) ≡ whole e
    → act_as b out list (found place (front (drop place list))) ≡ act b out e
act_at b out list place (register_write offset value) h = rw h
act_at b out list place (grant address) h = rw h
act_at b out list place (frame bytes) h = rw (h, frame_there list place bytes h)
act_at b out list place send h = rw h

-- ---- a turn

pub turn_is : (d : Enet) (m out a list : List ℕ) (i : ℕ) (f g : Found) (r : Acted) (m' out' a' : List ℕ) → f ≡ g
    → acting r m' out' ≡ act_as (bench_of d m) out list f → a' ≡ set a i r.number
    → played r.device m' out' a' ≡ turn (played d m out a) i list g
unfolding turn
turn_is d m out a list i f g r m' out' a' e h q = rw (← e, ← h, q)
