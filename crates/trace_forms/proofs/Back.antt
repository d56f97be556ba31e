-- What is written reads back the same. Assumes nothing.
use Prim.Native.Nat.{ℕ, ◌*◌, ◌-◌, ◌≤◌, ◌<◌}
use mathlib.Core.Path.{◌≡◌, refl, sym, ap, ◌∙◌}
use mathlib.Core.Bool.{true, false, false≢true}
use mathlib.Core.List.{List}
use native.Mathlib.Omega.{arith}
use lib.Dec.{eqb}
use lib.ListN.{length, take}
use borrow.Author.Tests.{eqb-true}
use Rattle.rules.proofs.Choices.{by_bool}
use Rattle.memory.specs.Memory.{store}
use Rattle.memory.proofs.Stores.{part_back}
use Rattle.event.specs.Walk.{walk}
use Rattle.event.specs.declared.Ending.{Ending}
use Rattle.event.specs.declared.Ending.TheVariants.{Whole, Cut, NoEvent}
use Rattle.stream.specs.Blocks.{block_count, Sound}
use Rattle.stream.specs.Stream.{stream, events_of, event_bytes}
use Rattle.trace.specs.Judge.{header_fault, first_bad}
use Rattle.trace.specs.Reading.{given, look, reading_of, read}
use Rattle.trace.specs.Passes.{verdict}
use Rattle.trace.proofs.Good.{look_gives}
use Rattle.trace.proofs.Judged.{all_good}
use Rattle.trace_writing.specs.Made.{stream_of, blocks_for, blocks_of, trace_of}
use Rattle.trace_writing.specs.Writing.{is_whole, needed, write_number, writing_of, write}
use Rattle.trace_writing.proofs.Putting.{length_stream, length_blocks}
use Rattle.trace_writing.proofs.Ways.{Allowed, allowed, some_needed}
use Rattle.trace_forms.specs.Forms.{same, Back, RoundTrip, WrittenReads}
use Rattle.trace_forms.proofs.Header.{window_fits, events_made, base_made, window_made, header_good}
use Rattle.trace_forms.proofs.Blockwise.{count_made, all_made, sound_made}

whole_is : (e : Ending) → is_whole e ≡ true → e ≡ Whole
whole_is Whole h = refl
whole_is Cut h = absurd (false≢true h)
whole_is NoEvent h = absurd (false≢true h)

-- ---- the trace

module _ (base window : ℕ) (events : List ℕ) (room : ℕ) (can : Allowed base window events room) where
  abbrev t : List ℕ
  t = trace_of base window events

  abbrev s : List ℕ
  s = stream_of base window events

  abbrev n : ℕ
  n = blocks_for (length s)

  long_is : n ≡ needed events
  long_is = ap blocks_for (length_stream base window events)

  trace_is : t ≡ blocks_of 0 n s
  unfolding trace_of
  trace_is = refl

  some : 0 < length s
  some = omega (arith, length_stream base window events)

  count : block_count (length t) ≡ n
  count = rw trace_is (count_made s n refl some)

  all : stream t n ≡ s
  all = rw trace_is (all_made s n refl some)

  length_trace : length t ≡ 512 * needed events
  length_trace = rw (trace_is, ← long_is) (length_blocks n 0 s)

  sound : Sound t n
  sound = let f = can.few in let l = long_is in rw trace_is (sound_made s n refl some (omega arith))

  ends : (walk (events_of (stream t n))).ending ≡ Whole
  ends = rw (all, events_made base window events) (whole_is (walk events).ending can.whole)

  header : header_fault s ≡ false
  header = header_good base window events (window_fits base window can.allows) can.allows

  good : first_bad t ≡ verdict 0 0
  good =
      let c = count in
      let l = long_is in
      let k = some_needed events in
      all_good t n sound (omega arith) (rw all header) (rw ends) (n - 1) (omega arith) (sym c) ends

  event_bytes_lem : event_bytes t ≡ events
  unfolding event_bytes
  event_bytes_lem = rw (count, all) (events_made base window events)

  given_is : given t ≡ same base window events
  given_is =
      let f = window_fits base window can.allows in
      rw (event_bytes_lem, count, all, base_made base window events f, window_made base window events f)

  found : (into : ℕ) → length events ≤ into → look t into ≡ same base window events
  found into h = look_gives t into (rw good) (rw event_bytes_lem h) ∙ given_is

  reads : (into : List ℕ) → length events ≤ length into → read t into ≡ reading_of (same base window events) (store into 0 events)
  unfolding read
  reads into h = rw (found (length into) h, event_bytes_lem)

  pub back : Back base window events t
  back = record { long = length_trace; good = good; bytes = event_bytes_lem; found = found; reads = reads }

pub round_trip : RoundTrip
round_trip base window events room e = back base window events room (allowed base window events room e)

-- ---- what writing leaves in a room

module _ (base window : ℕ) (events m : List ℕ) where
  was_allowed : (write base window events m).written.number ≡ 0 → write_number base window events (length m) ≡ 0
  unfolding write
  was_allowed h =
      by_bool (eqb (write_number base window events (length m)) 0) (λ u. eqb-true (write_number base window events (length m)) 0 u) (λ u. rw u at h)

  written_is : write_number base window events (length m) ≡ 0
      → write base window events m ≡ writing_of (record { number = 0; blocks = needed events }) (store m 0 (trace_of base window events))
  unfolding write
  written_is e = rw e

pub written_reads : WrittenReads
written_reads base window events m into z h =
    let e = was_allowed base window events m z in
    let b = round_trip base window events (length m) e in
    let f = (allowed base window events (length m) e).fits in
    let l = b.long in
    let t = trace_of base window events in
    let put : take (512 * needed events) (store m 0 t) ≡ t = rw (← l) (part_back m 0 t (omega arith)) in
    rw (written_is base window events m e, put) (b.reads into h)
