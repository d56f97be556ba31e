-- The walk along the records, turn by turn. Assumes nothing.
use Prim.Native.Nat.{ℕ, ◌+◌, ◌^◌, ◌≤◌}
use mathlib.Core.Path.{◌≡◌, refl, sym, ap, ◌∙◌}
use mathlib.Core.Bool.{Bool, true, false, ◌&&◌}
use mathlib.Core.List.{List, [], ◌∷◌, map}
use native.Mathlib.Omega.{arith}
use native.Mathlib.Nat.{add-zero}
use lib.Dec.{ltb}
use lib.ListN.{length, take, drop, length-append, length-drop}
use borrow.Author.Tests.{lt-ltb, le-ltb, ltb-true, ltb-false}
use Rattle.rules.proofs.Choices.{by_bool}
use Rattle.fcs.specs.CheckSequence.{check_sequence}
use Rattle.fcs.proofs.Meaning.{length_sequence}
use Rattle.std.proofs.Common.{None, Some}
use Rattle.pieces.specs.Pieces.{pieces, sizes, unless_zero}
use Rattle.pieces.proofs.Options.{said_none, said_some, said_more}
use Rattle.pieces.proofs.Turns.{turn, stop, lies, has}
use Rattle.pcap.specs.Capture.{Captured}
use Rattle.pcap_records.specs.declared.Walked.{Walked}
use Rattle.pcap_records.specs.Records.{record_size, record_fault, records_fault, with_check, captured_of, frames_of, storable, all_storable, walked}
use Rattle.pcap_records.proofs.Laws.{fits, least}

-- ---- how long a frame is

pub length_closed : (m : List ℕ) → length (with_check m) ≡ length m + 4
length_closed m = length-append m (check_sequence m) ∙ ap (λ (n : ℕ). length m + n) (length_sequence m)

pub length_frame : (x : List ℕ) → 16 ≤ length x → length (captured_of x).frame + 12 ≡ length x
length_frame x h =
    let d = length-drop 16 x in
    let c = length_closed (drop 16 x) in
    omega arith

-- the code tests it by the record's bytes
same_test : (x : List ℕ) (n : ℕ) → 16 ≤ length x → length x ≡ n → ltb n 4294967308 ≡ storable (captured_of x).frame
unfolding storable
same_test x n h e =
    let l = length_frame x h in
    by_bool (ltb (length (captured_of x).frame) (2 ^ 32))
    (λ t.
    let k = ltb-true (length (captured_of x).frame) (2 ^ 32) t in
    lt-ltb n 4294967308 (omega arith) ∙ sym t)
    (λ t.
    let k = ltb-false (length (captured_of x).frame) (2 ^ 32) t in
    le-ltb n 4294967308 (omega arith) ∙ sym t)

-- ---- conjunctions

and_assoc : (a b c : Bool) → ((a && b) && c) ≡ (a && (b && c))
and_assoc true b c = refl
and_assoc false b c = refl

and_true : (a : Bool) → (a && true) ≡ a
and_true true = refl
and_true false = refl

-- ---- the walk: at a place, so many records before it

abbrev pub ahead : List ℕ → ℕ → List Captured
ahead s place = map captured_of (pieces record_size (drop place s))

pub record Walking (s : List ℕ) (place frames : ℕ) (fit : Bool) : Type 0 where
  pub inside : place ≤ length s
  pub few : frames ≤ place
  pub bytes : place + sizes (pieces record_size (drop place s)) ≡ sizes (pieces record_size s)
  pub count : frames + length (ahead s place) ≡ length (frames_of s)
  pub fitting : (fit && all_storable (ahead s place)) ≡ all_storable (frames_of s)

module _ (s : List ℕ) where
  pub walking_begins : Walking s 0 0 true
  unfolding frames_of
  walking_begins = record { few = omega arith; inside = omega arith; bytes = omega arith; count = omega arith; fitting = refl }

  module _ (place frames : ℕ) (fit : Bool) (w : Walking s place frames fit) where
    module _ (n : ℕ) (e : Some n ≡ unless_zero (record_size (drop place s))) where
      here : n ≡ record_size (drop place s)
      here = said_some n _ e

      pub walking_room : place + n ≤ length s
      walking_room = lies record_size fits s place n here w.inside

      pub walking_least : 16 ≤ n
      walking_least =
          let k = here in
          let m = least (drop place s) (said_more n _ e) in
          omega arith

      pub walking_on : (fit' : Bool) → fit' ≡ (fit && ltb n 4294967308) → Walking s (place + n) (frames + 1) fit'
      unfolding all_storable
      walking_on fit' ef =
          let m = walking_least in
          let t = turn record_size fits s place n here (λ z. omega arith) in
          let x = take n (drop place s) in
          let h : length x ≡ n = has record_size fits s place n here in
          let b = w.bytes in
          let few = w.few in
          let bs : place + (length x + sizes (pieces record_size (drop (place + n) s))) ≡ sizes (pieces record_size s) = rw t at b in
          let one : ahead s place ≡ captured_of x ∷ ahead s (place + n) = ap (λ (xs : List (List ℕ)). map captured_of xs) t in
          let c = ap (λ (cs : List Captured). frames + length cs) (sym one) ∙ w.count in
          let a : (fit' && all_storable (ahead s (place + n))) ≡ all_storable (frames_of s) =
          ap (λ (y : Bool). y && all_storable (ahead s (place + n))) (ef ∙ ap (λ (y : Bool). fit && y) (same_test x n (omega arith) h))
          ∙ and_assoc fit (storable (captured_of x).frame) (all_storable (ahead s (place + n)))
          ∙ ap (λ (cs : List Captured). fit && all_storable cs) (sym one)
          ∙ w.fitting in
          record { few = omega arith; inside = walking_room; bytes = omega arith; count = omega arith; fitting = a }

    module _ (none : None ≡ unless_zero (record_size (drop place s))) where
      no_more : pieces record_size (drop place s) ≡ []
      no_more = stop record_size fits s place 0 (sym (said_none _ none)) refl

      pub walking_stops : record_fault (drop place s) ≡ records_fault s
      unfolding records_fault
      walking_stops =
          let b : place + 0 ≡ sizes (pieces record_size s) = rw no_more at w.bytes in
          let p : place ≡ sizes (pieces record_size s) = omega arith in
          rw p refl

      pub walking_ends : ◌≡◌ {A = Walked} (record { frames = frames; storable = fit }) (walked s)
      unfolding all_storable
      walking_ends =
          let ends : ahead s place ≡ [] = ap (λ (xs : List (List ℕ)). map captured_of xs) no_more in
          let q : frames ≡ length (frames_of s) = sym (add-zero frames) ∙ ap (λ (cs : List Captured). frames + length cs) (sym ends) ∙ w.count in
          let g : fit ≡ all_storable (frames_of s) = sym (and_true fit) ∙ ap (λ (cs : List Captured). fit && all_storable cs) (sym ends) ∙ w.fitting in
          λ i. record { frames = q i; storable = g i }
