-- The events and the times put, record by record. Assumes nothing.
use Prim.Native.Nat.{ℕ, ◌+◌, ◌-◌, ◌*◌, ◌^◌, ◌≤◌, ◌<◌}
use mathlib.Core.Path.{◌≡◌, refl, sym, ap, ◌∙◌}
use mathlib.Core.List.{List, [], ◌∷◌, ◌++◌, map, append_assoc}
use native.Mathlib.Omega.{arith}
use lib.ListN.{length, take, drop, length-drop, length-append}
use lib.Seq.{take_all}
use Rattle.memory.specs.Memory.{word, word_bytes, store}
use Rattle.memory.proofs.Stores.{store_append, length_store, length_word_bytes}
use Rattle.fcs.specs.CheckSequence.{check_number, check_sequence}
use Rattle.event.specs.Event.{bytes_of, list_of}
use Rattle.pieces.specs.Pieces.{pieces, sizes}
use Rattle.pieces.proofs.Joined.{all_bytes}
use Rattle.pieces.proofs.Options.{first_piece}
use Rattle.pcap.specs.Capture.{Captured}
use Rattle.pcap_records.specs.Records.{record_size, with_check, captured_of, frames_of}
use Rattle.pcap_records.proofs.Laws.{fits, least}
use Rattle.pcap_records.proofs.Walks.{length_closed}
use Rattle.pcap_import.specs.Import.{frame_event, events_of, time_bytes, times_of}
use Rattle.pcap_import.proofs.Lengths.{length_event_of, length_time}

-- what is behind the first bytes of a string
pub part_behind : (s r : List ℕ) (k : ℕ) → r ≡ take (length s) (drop k s) → r ≡ drop k s
part_behind s r k e =
    let d = length-drop k s in
    e ∙ take_all (length s) (drop k s) (omega arith)

-- ---- one event, in three stores

-- where its check sequence stands
pub check_place : (s x : List ℕ) (at : ℕ) → s ≡ drop 16 x → at + length x < 2 ^ 64 → at + 5 < 2 ^ 64 → at + 5 + length s < 2 ^ 64
check_place s x at e h k =
    let l = ap length e in
    let d = length-drop 16 x in
    omega arith

pub event_put : (m m₁ m₂ m₃ x s h : List ℕ) (at c : ℕ) → s ≡ drop 16 x → c ≡ check_number s → h ≡ 3 ∷ word_bytes (length s + 4) → m₁ ≡ store m at h
    → m₂ ≡ store m₁ (at + 5) s → m₃ ≡ store m₂ (at + 5 + length s) (word_bytes c) → m₃ ≡ store m at (bytes_of (frame_event (captured_of x)))
unfolding bytes_of check_sequence word_bytes
event_put m m₁ m₂ m₃ x s h at c es ec eh e₁ e₂ e₃ =
    let l : at + 5 ≡ at + length h = ap (λ (k : List ℕ). at + length k) (sym eh) in
    let both : m₂ ≡ store m at (h ++ s) = e₂ ∙ rw e₁ (store_append m at (at + 5) h s l) in
    let k : at + 5 + length s ≡ at + length (h ++ s) = let a = length-append h s in omega arith in
    let all : m₃ ≡ store m at ((h ++ s) ++ word_bytes c) = e₃ ∙ rw both (store_append m at (at + 5 + length s) (h ++ s) (word_bytes c) k) in
    let len : length s + 4 ≡ length (with_check s) = sym (length_closed s) in
    all ∙ ap (λ (l : List ℕ). store m at l) (append_assoc h s (word_bytes c)) ∙ rw (eh, len, ec, es)

-- ---- one time, in two stores

pub time_put : (m m₁ m₂ x : List ℕ) (at seconds microseconds : ℕ) → seconds ≡ word x 0 → microseconds ≡ word x 4 → m₁ ≡ store m at (word_bytes seconds)
    → m₂ ≡ store m₁ (at + 4) (word_bytes microseconds) → m₂ ≡ store m at (time_bytes (captured_of x))
unfolding time_bytes
time_put m m₁ m₂ x at seconds microseconds es eu e₁ e₂ =
    let l : at + 4 ≡ at + length (word_bytes seconds) = ap (λ (k : ℕ). at + k) (sym (length_word_bytes seconds)) in
    e₂ ∙ rw e₁ (store_append m at (at + 4) (word_bytes seconds) (word_bytes microseconds) l ∙ rw (es, eu))

-- ---- the loop: at a place of the events and of the times, with the records that are left

-- their frames
abbrev pub ahead : List ℕ → List Captured
ahead left = map captured_of (pieces record_size left)

pub record Filling (s e₀ t₀ left : List ℕ) (to time : ℕ) (events times : List ℕ) : Type 0 where
  pub before : to + sizes (pieces record_size left) ≤ length s
  pub half : 2 * time + sizes (pieces record_size left) ≤ length s
  pub same_events : length events ≡ length e₀
  pub same_times : length times ≡ length t₀
  pub fills : store events to (events_of (ahead left)) ≡ store e₀ 0 (events_of (frames_of s))
  pub tells : store times time (times_of (ahead left)) ≡ store t₀ 0 (times_of (frames_of s))

module _ (s e₀ t₀ left : List ℕ) where
  pub filling_begins : left ≡ s → Filling s e₀ t₀ left 0 0 e₀ t₀
  unfolding frames_of
  filling_begins e =
      let a = all_bytes record_size fits s in
      rw e (record { before = omega arith; half = omega arith; same_events = refl; same_times = refl; fills = refl; tells = refl })

  module _ (to time : ℕ) (events times : List ℕ) (f : Filling s e₀ t₀ left to time events times) where
    pub filling_ends : pieces record_size left ≡ [] → (events ≡ store e₀ 0 (events_of (frames_of s))) × (times ≡ store t₀ 0 (times_of (frames_of s)))
    unfolding events_of times_of list_of store
    filling_ends z =
        let none : ahead left ≡ [] = ap (λ (xs : List (List ℕ)). map captured_of xs) z in (
          ap (λ (cs : List Captured). store events to (events_of cs)) (sym none) ∙ f.fills,
          ap (λ (cs : List Captured). store times time (times_of cs)) (sym none) ∙ f.tells,
        )

    module _ (x : List ℕ) (xs : List (List ℕ)) (e : pieces record_size left ≡ x ∷ xs) where
      pub filling_least : 16 ≤ length x
      filling_least =
          let f = first_piece record_size fits left x xs e in
          let k = f.0 in
          let l = least left f.1 in
          omega arith

      pub filling_room : (to + (length x + sizes xs) ≤ length s) × (2 * time + (length x + sizes xs) ≤ length s)
      filling_room = (rw e at f.before, rw e at f.half)

      pub filling_on : (rest events' times' : List ℕ) → xs ≡ pieces record_size rest → events' ≡ store events to (bytes_of (frame_event (captured_of x)))
          → times' ≡ store times time (time_bytes (captured_of x)) → Filling s e₀ t₀ rest (to + (length x - 7)) (time + 8) events' times'
      unfolding events_of times_of list_of
      filling_on rest events' times' er ee et =
          let l = filling_least in
          let r = filling_room in
          let b = r.0 in
          let h = r.1 in
          let cs = map captured_of xs in
          let one : ahead left ≡ captured_of x ∷ cs = ap (λ (ys : List (List ℕ)). map captured_of ys) e in
          let le = length_event_of x l in
          let lt = length_time (captured_of x) in
          let je : to + (length x - 7) ≡ to + length (bytes_of (frame_event (captured_of x))) = omega arith in
          let jt : time + 8 ≡ time + length (time_bytes (captured_of x)) = omega arith in
          let pe : store events' (to + (length x - 7)) (events_of cs) ≡ store events to (events_of (captured_of x ∷ cs)) =
          rw ee (store_append events to (to + (length x - 7)) (bytes_of (frame_event (captured_of x))) (events_of cs) je) in
          let pt : store times' (time + 8) (times_of cs) ≡ store times time (times_of (captured_of x ∷ cs)) =
          rw et (store_append times time (time + 8) (time_bytes (captured_of x)) (times_of cs) jt) in
          record {
            before = rw (← er) (omega arith);
            half = rw (← er) (omega arith);
            same_events = ap length ee ∙ length_store events to (bytes_of (frame_event (captured_of x))) ∙ f.same_events;
            same_times = ap length et ∙ length_store times time (time_bytes (captured_of x)) ∙ f.same_times;
            fills = rw (← er) (pe ∙ ap (λ (ds : List Captured). store events to (events_of ds)) (sym one) ∙ f.fills);
            tells = rw (← er) (pt ∙ ap (λ (ds : List Captured). store times time (times_of ds)) (sym one) ∙ f.tells);
          }
