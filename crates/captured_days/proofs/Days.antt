-- The capture of a day has its delivered and sent frames, and no others. Assumes nothing.
use Prim.Native.Nat.{ℕ, suc, ◌+◌, ◌≤◌, ◌<◌}
use mathlib.Core.Path.{◌≡◌, refl, sym, ap, ◌∙◌}
use mathlib.Core.Bool.{true, false}
use mathlib.Core.List.{List, [], ◌∷◌, ◌++◌, append-nil, append_assoc}
use native.Mathlib.Omega.{arith}
use native.Mathlib.Nat.{zero-add}
use lib.Dec.{eqb, ltb}
use lib.ListN.{length, take, length-append}
use borrow.Author.Tests.{ne_eqb, lt-ltb, le-ltb, ltb-true, ltb-false}
use Rattle.std.specs.Prelude.{if◌then◌else◌}
use Rattle.rules.proofs.Choices.{by_bool}
use Rattle.memory.specs.Memory.{word_bytes, store}
use Rattle.memory.proofs.Stores.{store_append, length_store}
use Rattle.appending.specs.Put.{put}
use Rattle.event.specs.Event.{Event, register_write, grant, frame, send}
use Rattle.playback.specs.Playing.{Acting, act, play}
use Rattle.pcap.specs.Capture.{Captured}
use Rattle.pcap_list.specs.Entries.{entry_head, entry_bytes, list_bytes}
use Rattle.captured_days.specs.Captured.{if_done, captured_of, captured_from}
use Rattle.capturing.specs.Capturing.{Listing, behind_put, keep, Capturing, keep_of, step, capture_all, begun}
use Rattle.captured_days.specs.Claims.{CapturesAll}

-- ---- the day that is played

played : (es : List Event) (c : Capturing) (i : ℕ)
    → ((capture_all c i es).bench ≡ (play c.bench c.output es).bench) × ((capture_all c i es).output ≡ (play c.bench c.output es).output)
unfolding capture_all play
played [] c i = (refl, refl)
played (e ∷ es) c i = played es (step c i e) (suc i)

-- ---- the list is added to, frame by frame

adding_one : Listing → Captured → Listing
adding_one l c = if l.full then l else behind_put l.bytes (put l.list l.bytes (entry_bytes c))

adding : Listing → List Captured → Listing
adding l [] = l
adding l (c ∷ cs) = adding (adding_one l c) cs

adding_both : (xs ys : List Captured) (l : Listing) → adding l (xs ++ ys) ≡ adding (adding l xs) ys
unfolding adding
adding_both [] ys l = refl
adding_both (x ∷ xs) ys l = adding_both xs ys (adding_one l x)

if_done_lem : (l : Listing) (number i : ℕ) (f : List ℕ) → keep l number i f ≡ adding l (if_done number i f)
unfolding keep adding adding_one
if_done_lem l number i f = by_bool (eqb number 0) (λ t. rw t) (λ t. rw t)

one_event : (l : Listing) (i : ℕ) (e : Event) (a : Acting) → keep_of l i e a ≡ adding l (captured_of i e a)
unfolding adding
one_event l i (register_write offset value) a = refl
one_event l i (grant address) a = refl
one_event l i (frame bytes) a = if_done_lem l a.number i bytes
one_event l i send a = if_done_lem l a.number i (take a.count a.output)

all_events : (es : List Event) (c : Capturing) (i : ℕ) → (capture_all c i es).listing ≡ adding c.listing (captured_from i c.bench c.output es)
unfolding capture_all captured_from adding
all_events [] c i = refl
all_events (e ∷ es) c i =
    let a = act c.bench c.output e in
    all_events es (step c i e) (suc i)
    ∙ ap (λ (l : Listing). adding l (captured_from (suc i) a.bench a.output es)) (one_event c.listing i e a)
    ∙ sym (adding_both (captured_of i e a) (captured_from (suc i) a.bench a.output es) c.listing)

-- ---- what is added stands behind what was there, as long as there is room

-- bytes at the front of a list
abbrev holding : List ℕ → List ℕ → Listing
holding l s = record { bytes = length s; full = false; list = store l 0 s }

-- an entry has bytes
some_bytes : (c : Captured) → 0 < length (entry_bytes c)
unfolding entry_bytes entry_head word_bytes
some_bytes c = omega arith

module _ (l s : List ℕ) (c : Captured) where
  room_for : length s + length (entry_bytes c) ≤ length l → adding_one (holding l s) c ≡ holding l (s ++ entry_bytes c)
  unfolding adding_one put
  room_for h =
      let e = entry_bytes c in
      let n = length_store l 0 s in
      let some = some_bytes c in
      let k : length s + length e ≡ length (s ++ e) = sym (length-append s e) in
      let m : store (store l 0 s) (length s) e ≡ store l 0 (s ++ e) = store_append l 0 (length s) s e (sym (zero-add (length s))) in
      rw (le-ltb (length (store l 0 s)) (length s + length e) (omega arith), ne_eqb (length s + length e) 0 (λ q. omega arith))
      (λ j. record { bytes = k j; full = false; list = m j })

  no_room_for : length l < length s + length (entry_bytes c) → (adding_one (holding l s) c).full ≡ true
  unfolding adding_one put
  no_room_for h =
      let n = length_store l 0 s in
      rw (lt-ltb (length (store l 0 s)) (length s + length (entry_bytes c)) (omega arith))

-- once there was none
stays_full : (cs : List Captured) (l : Listing) → l.full ≡ true → (adding l cs).full ≡ true
unfolding adding adding_one
stays_full [] l h = h
stays_full (c ∷ cs) l h = stays_full cs (adding_one l c) (rw h)

fits_all : (cs : List Captured) (l s : List ℕ) → length s + length (list_bytes cs) ≤ length l → adding (holding l s) cs ≡ holding l (s ++ list_bytes cs)
unfolding adding list_bytes
fits_all [] l s h = ap (λ (x : List ℕ). holding l x) (sym (append-nil s))
fits_all (c ∷ cs) l s h =
    let a = length-append (entry_bytes c) (list_bytes cs) in
    let b = length-append s (entry_bytes c) in
    ap (λ (x : Listing). adding x cs) (room_for l s c (omega arith))
    ∙ fits_all cs l (s ++ entry_bytes c) (omega arith)
    ∙ ap (λ (x : List ℕ). holding l x) (append_assoc s (entry_bytes c) (list_bytes cs))

not_all : (cs : List Captured) (l s : List ℕ) → length s ≤ length l → length l < length s + length (list_bytes cs) → (adding (holding l s) cs).full ≡ true
unfolding adding list_bytes
not_all [] l s g h = absurd (omega arith)
not_all (c ∷ cs) l s g h =
    let a = length-append (entry_bytes c) (list_bytes cs) in
    let b = length-append s (entry_bytes c) in
    by_bool (ltb (length l) (length s + length (entry_bytes c)))
    (λ t. stays_full cs (adding_one (holding l s) c) (no_room_for l s c (ltb-true (length l) (length s + length (entry_bytes c)) t)))
    (λ t.
    let r = ltb-false (length l) (length s + length (entry_bytes c)) t in
    rw (room_for l s c r) (not_all cs l (s ++ entry_bytes c) (omega arith) (omega arith)))

-- ---- from the start

pub captures_all : CapturesAll
unfolding store
captures_all base window memory output list es =
    let c = begun base window memory output list in
    let cs = captured_from 0 c.bench output es in
    let p = played es c 0 in
    let z : 0 + length (list_bytes cs) ≡ length (list_bytes cs) = zero-add (length (list_bytes cs)) in
    record {
      same_bench = p.0;
      same_output = p.1;
      frames = λ h. all_events es c 0 ∙ fits_all cs list [] (rw z h);
      full = λ h. ap (λ (l : Listing). l.full) (all_events es c 0) ∙ not_all cs list [] (omega arith) (rw z h);
    }
