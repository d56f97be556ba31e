-- "An exported file imports to the same frames and times". Assumes nothing.
use Prim.Native.Nat.{ℕ, ◌≤◌}
use mathlib.Core.Path.{◌≡◌, refl, sym}
use mathlib.Core.Bool.{true}
use mathlib.Core.List.{List, ◌++◌}
use native.Mathlib.Omega.{arith}
use lib.Dec.{eqb}
use lib.ListN.{length, take, drop}
use borrow.Author.Tests.{le-ltb, eq-eqb, eqb-true}
use Rattle.rules.proofs.Choices.{by_bool, if_yes, if_no, passed_by, or_no, not_no}
use Rattle.memory.specs.Memory.{word, word_bytes, store}
use Rattle.memory.proofs.Stores.{part_back}
use Rattle.pcap.specs.Capture.{Captured, header_bytes, records_bytes, capture_bytes}
use Rattle.pcap_list.specs.Entries.{entries_of}
use Rattle.pcap_export.specs.Export.{export_number, exporting, export}
use Rattle.pcap_export.proofs.Lengths.{length_capture}
use Rattle.pcap_export.proofs.Ways.{accepted}
use Rattle.pcap_records.specs.Records.{records_fault, all_storable}
use Rattle.pcap_import.specs.Import.{header_fault, imported_frames, events_of, times_of, too_little, import_number, look, importing, import}
use Rattle.pcap_forms.specs.Forms.{Back, RoundTrip, ExportedImports}
use Rattle.pcap_forms.proofs.Records.{AllExportable, made_frames, made_right, made_storable}
use Rattle.pcap_forms.proofs.Entries.{entries_exportable}

-- ---- the header

header_right : (r : List ℕ) → header_fault (header_bytes ++ r) ≡ 0
unfolding header_fault header_bytes word word_bytes
header_right r = rw (le-ltb (length (header_bytes ++ r)) 24 (omega arith))

behind_header : (r : List ℕ) → drop 24 (header_bytes ++ r) ≡ r
unfolding header_bytes word_bytes
behind_header r = refl

-- ---- import of a file whose parts are right

module _ (file : List ℕ) (events times : List ℕ) (cs : List Captured) (header : header_fault file ≡ 0) (records : records_fault (drop 24 file) ≡ 0)
    (frames : imported_frames file ≡ cs) (fit : all_storable cs ≡ true) (he : length (events_of cs) ≤ length events) (ht : length (times_of cs) ≤ length times) where
  number : import_number file (length events) (length times) ≡ 0
  unfolding import_number too_little
  number =
      let room = or_no _ _ (not_no _ fit) (or_no _ _ (le-ltb (length events) (length (events_of cs)) he) (le-ltb (length times) (length (times_of cs)) ht)) in
      sym (passed_by _ _ 0 0 (sym header) refl (passed_by _ _ 0 0 (sym records) refl (rw frames (if_no _ _ _ _ room refl))))

  says : look file (length events) (length times) ≡ record { number = 0; bytes = length (events_of cs); frames = length cs }
  unfolding look
  says =
      sym (if_yes _ _ _ _ (eq-eqb (import_number file (length events) (length times)) 0 number) (rw frames))

  pub imports_all : import file events times
      ≡ importing (record { number = 0; bytes = length (events_of cs); frames = length cs }) (store events 0 (events_of cs)) (store times 0 (times_of cs))
  unfolding import
  imports_all = rw (says, frames)

-- ---- there and back

captures_back : (cs : List Captured) → AllExportable cs → Back cs (capture_bytes cs)
unfolding capture_bytes
captures_back cs a =
    let d = behind_header (records_bytes cs) in
    let f : imported_frames (header_bytes ++ records_bytes cs) ≡ cs = rw d (made_frames cs a) in
    let r : records_fault (drop 24 (header_bytes ++ records_bytes cs)) ≡ 0 = rw d (made_right cs a) in
    record {
      frames = f;
      imports = λ events times he ht. imports_all (header_bytes ++ records_bytes cs) events times cs (header_right (records_bytes cs)) r f (made_storable cs a) he ht;
    }

pub round_trip : RoundTrip
round_trip list room b e =
    captures_back (entries_of list) (entries_exportable list b (accepted list room (sym e)).1.0)

not_refused : (list room : List ℕ) → (export list room).exported.number ≡ 0 → export_number list (length room) ≡ 0
unfolding export
not_refused list room =
    by_bool (eqb (export_number list (length room)) 0) (λ t e. eqb-true (export_number list (length room)) 0 t) (λ t. rw t (λ e. e))

pub exports_all : (list room : List ℕ) → export_number list (length room) ≡ 0
    → export list room ≡ exporting (record { number = 0; bytes = length (capture_bytes (entries_of list)); frames = length (entries_of list) }) (store room 0 (capture_bytes (entries_of list)))
unfolding export
exports_all list room n = rw (eq-eqb (export_number list (length room)) 0 n)

pub exported_imports : ExportedImports
exported_imports list room b e =
    let n : export_number list (length room) ≡ 0 = not_refused list room e in
    let a = accepted list (length room) (sym n) in
    let k = length_capture list a.0 a.1.0 in
    let l = a.1.1 in
    let out = exports_all list room n in
    let same : take (export list room).exported.bytes (export list room).room ≡ capture_bytes (entries_of list) =
    rw out (part_back room 0 (capture_bytes (entries_of list)) (omega arith)) in
    rw same (round_trip list (length room) b n)
