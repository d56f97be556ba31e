-- The frames that import gives: their check sequences are right, and their events are whole. Assumes nothing.
use Prim.Native.Nat.{ℕ, zero, suc, ◌^◌, ◌<◌}
use mathlib.Core.Path.{◌≡◌, refl}
use mathlib.Core.Bool.{true, not}
use mathlib.Core.List.{List, [], ◌∷◌, ◌++◌, map}
use native.Mathlib.Omega.{arith}
use lib.Dec.{eqb, ltb}
use lib.ListN.{length, take, drop}
use borrow.Author.Tests.{ltb-true}
use Rattle.std.specs.Prelude.{if◌then◌else◌}
use Rattle.rules.specs.Choice.{◌otherwise◌}
use Rattle.rules.proofs.Choices.{by_bool, passed, neither, or_parts, and_parts, said_yes}
use Rattle.memory.specs.Memory.{word, word_bytes}
use Rattle.fcs.specs.CheckSequence.{check_sequence}
use Rattle.fcs.proofs.Meaning.{closed_message_right}
use Rattle.block_forms.specs.Forms.{Bytes}
use Rattle.trace_forms.specs.Events.{AllStorable}
use Rattle.trace_forms.proofs.Bytewise.{digits, bytes_drop, bytes_take, word_small}
use Rattle.trace_forms.proofs.Lists.{events_back}
use Rattle.pieces.specs.Pieces.{pieces_by, pieces}
use Rattle.pcap.specs.Capture.{Captured}
use Rattle.pcap_records.specs.Records.{record_size, records_fault, captured_of, frames_of, storable, all_storable}
use Rattle.pcap_import.specs.Import.{header_fault, imported_frames, frame_event, events_of, time_bytes, times_of, too_little, import_number}
use Rattle.pcap_forms.specs.Forms.{AllChecked, ChecksRight, Tells, TimesTold, FrameEvents}

-- times that four bytes each can hold
abbrev Timed : List Captured → Type 0
Timed [] = Unit
Timed (c ∷ cs) = ((c.seconds < 2 ^ 32) × (c.microseconds < 2 ^ 32)) × Timed cs

-- ---- the check sequences

all_right : (xs : List (List ℕ)) → AllChecked (map captured_of xs)
all_right [] = tt
all_right (x ∷ xs) = (closed_message_right (drop 16 x), all_right xs)

pub checks_right : ChecksRight
unfolding frames_of
checks_right s = all_right (pieces record_size s)

-- ---- the events

bytes_append : (xs ys : List ℕ) → Bytes xs → Bytes ys → Bytes (xs ++ ys)
bytes_append [] ys a b i = b i
bytes_append (x ∷ xs) ys a b zero = a 0
bytes_append (x ∷ xs) ys a b (suc i) = bytes_append xs ys (λ j. a (suc j)) b i

sequence_bytes : (m : List ℕ) → Bytes (check_sequence m)
unfolding check_sequence
sequence_bytes m zero = omega arith
sequence_bytes m (suc zero) = omega arith
sequence_bytes m (suc (suc zero)) = omega arith
sequence_bytes m (suc (suc (suc zero))) = omega arith
sequence_bytes m (suc (suc (suc (suc i)))) = omega arith

frames_storable : (n : ℕ) (s : List ℕ) → Bytes s → all_storable (map captured_of (pieces_by record_size n s)) ≡ true
    → AllStorable (map frame_event (map captured_of (pieces_by record_size n s)))
unfolding pieces_by all_storable storable
frames_storable zero s b = λ e. tt
frames_storable (suc n) s b =
    by_bool (eqb (record_size s) 0) (λ t. rw t (λ e. tt))
    (λ t. rw t (λ e.
    let x = take (record_size s) s in
    let rest = map captured_of (pieces_by record_size n (drop (record_size s) s)) in
    let both = and_parts (ltb (length (captured_of x).frame) (2 ^ 32)) (all_storable rest) e in (
      (
        ltb-true (length (captured_of x).frame) (2 ^ 32) both.0,
        bytes_append (drop 16 x) (check_sequence (drop 16 x)) (bytes_drop 16 x (bytes_take (record_size s) s b)) (sequence_bytes (drop 16 x)),
      ),
      frames_storable n (drop (record_size s) s) (bytes_drop (record_size s) s b) both.1,
    )))

-- ---- the times

tells : (cs : List Captured) → Timed cs → Tells (times_of cs) cs
unfolding times_of time_bytes word word_bytes
tells [] t = refl
tells (c ∷ cs) t = (digits c.seconds t.0.0, digits c.microseconds t.0.1, tells cs t.1)

timed_by : (n : ℕ) (s : List ℕ) → Bytes s → Timed (map captured_of (pieces_by record_size n s))
unfolding pieces_by
timed_by zero s b = tt
timed_by (suc n) s b =
    by_bool (eqb (record_size s) 0) (λ t. rw t tt)
    (λ t.
    let x = take (record_size s) s in
    let bx = bytes_take (record_size s) s b in
    rw t ((word_small x bx 0, word_small x bx 4), timed_by n (drop (record_size s) s) (bytes_drop (record_size s) s b)))

pub times_told : TimesTold
unfolding frames_of
times_told s b = tells (map captured_of (pieces record_size s)) (timed_by (length s) s b)

-- ---- what a file has that is imported

pub accepted : (file : List ℕ) (events times : ℕ) → import_number file events times ≡ 0
    → (header_fault file ≡ 0) × ((records_fault (drop 24 file) ≡ 0) × (all_storable (imported_frames file) ≡ true))
unfolding import_number too_little
accepted file events times e =
    let a = neither (header_fault file) (records_fault (drop 24 file) otherwise (if too_little (imported_frames file) events times then 37 else 0)) e in
    let b = neither (records_fault (drop 24 file)) (if too_little (imported_frames file) events times then 37 else 0) a.1 in
    let c = passed (too_little (imported_frames file) events times) 37 0 (omega arith) b.1 in
    let d = or_parts (not (all_storable (imported_frames file))) _ c.0 in
    (a.0, (b.0, said_yes (all_storable (imported_frames file)) _ refl d.0))

pub frame_events : FrameEvents
unfolding events_of frames_of
frame_events file events times b e =
    events_back (map frame_event (imported_frames file)) (frames_storable (length (drop 24 file)) (drop 24 file) (bytes_drop 24 file b) (accepted file events times e).1.1)
