-- An event has seven bytes fewer than its record, a time has eight. Assumes nothing.
use Prim.Native.Nat.{ℕ, zero, suc, ◌+◌, ◌*◌, ◌≤◌}
use mathlib.Core.Path.{◌≡◌, refl, ◌∙◌}
use mathlib.Core.List.{List, [], ◌∷◌, map}
use native.Mathlib.Omega.{arith}
use lib.Dec.{eqb}
use lib.ListN.{length, take, drop, length-append, length-take}
use borrow.Author.Tests.{eqb-false}
use Rattle.rules.proofs.Choices.{by_bool}
use Rattle.memory.specs.Memory.{word_bytes}
use Rattle.event.specs.Event.{bytes_of, list_of}
use Rattle.pieces.specs.Pieces.{pieces_by, pieces, sizes}
use Rattle.pcap.specs.Capture.{Captured}
use Rattle.pcap_records.specs.Records.{record_size, captured_of, frames_of}
use Rattle.pcap_records.proofs.Laws.{fits, least}
use Rattle.pcap_records.proofs.Walks.{length_frame}
use Rattle.pcap_import.specs.Import.{frame_event, events_of, time_bytes, times_of}

length_event : (c : Captured) → length (bytes_of (frame_event c)) ≡ 5 + length c.frame
unfolding bytes_of word_bytes
length_event c = omega arith

pub length_time : (c : Captured) → length (time_bytes c) ≡ 8
unfolding time_bytes word_bytes
length_time c = refl

pub length_times : (cs : List Captured) → length (times_of cs) ≡ 8 * length cs
unfolding times_of
length_times [] = refl
length_times (c ∷ cs) = length-append (time_bytes c) (times_of cs) ∙ omega (arith, length_time c, length_times cs)

-- the event of a record
pub length_event_of : (x : List ℕ) → 16 ≤ length x → length (bytes_of (frame_event (captured_of x))) + 7 ≡ length x
length_event_of x h =
    let e = length_event (captured_of x) in
    let f = length_frame x h in
    omega arith

-- all events, and that their records have at least 16 bytes each
events_by : (n : ℕ) (s : List ℕ)
    → (length (events_of (map captured_of (pieces_by record_size n s))) + 7 * length (map captured_of (pieces_by record_size n s)) ≡ sizes (pieces_by record_size n s))
    × (16 * length (map captured_of (pieces_by record_size n s)) ≤ sizes (pieces_by record_size n s))
unfolding pieces_by events_of list_of
events_by zero s = (refl, omega arith)
events_by (suc n) s =
    by_bool (eqb (record_size s) 0) (λ t. rw t (refl, omega arith))
    (λ t.
    let some = least s (eqb-false (record_size s) 0 t) in
    let x = take (record_size s) s in
    let f = fits s in
    let k = length-take (record_size s) s in
    let one = length_event_of x (omega arith) in
    let rest = events_by n (drop (record_size s) s) in
    let r = rest.0 in
    let m = rest.1 in
    let a = length-append (bytes_of (frame_event (captured_of x))) (events_of (map captured_of (pieces_by record_size n (drop (record_size s) s)))) in
    rw t (omega arith, omega arith))

pub length_events : (s : List ℕ) → (length (events_of (frames_of s)) + 7 * length (frames_of s) ≡ sizes (pieces record_size s)) × (16 * length (frames_of s) ≤ sizes (pieces record_size s))
unfolding frames_of
length_events s = events_by (length s) s
