-- One form: a file that is imported is what is made of what it gave. Assumes nothing.
use Prim.Native.Nat.{ℕ, zero, suc, ◌+◌, ◌-◌, ◌≤◌}
use mathlib.Core.Path.{◌≡◌, refl, sym, ap, ap₂, ◌∙◌}
use mathlib.Core.Bool.{true, not}
use mathlib.Core.List.{List, ◌++◌, map}
use native.Mathlib.Omega.{arith}
use lib.Dec.{eqb, ltb}
use lib.ListN.{length, take, drop, length-take, length-drop}
use lib.Seq.{take_at, drop-drop}
use borrow.Author.Tests.{le-leb, le-ltb, ltb-false, eqb-true, eqb-false}
use Rattle.rules.proofs.Choices.{by_bool, passed, passed_by, said_yes, if_no, and_yes, not_no}
use Rattle.memory.specs.Memory.{word, word_bytes, store}
use Rattle.memory.proofs.Parts.{word_from, word_in}
use Rattle.fcs.specs.CheckSequence.{check_right, check_sequence}
use Rattle.fcs.proofs.Meaning.{closed_message_right}
use Rattle.frame.specs.Length.{length_allowed}
use Rattle.block_forms.specs.Forms.{Bytes}
use Rattle.trace_forms.proofs.Bytewise.{bytes_drop, bytes_take, word_small, one_word}
use Rattle.pieces.specs.Pieces.{pieces_by, pieces, joined}
use Rattle.pieces.proofs.Joined.{whole}
use Rattle.pcap.specs.Capture.{Captured, magic, version, zone, accuracy, snap_length, link_type, header_bytes, message, head_bytes, record_bytes, records_bytes, capture_bytes}
use Rattle.pcap.proofs.Laws.{length_message}
use Rattle.pcap_list.specs.Entries.{list_bytes, entries_of}
use Rattle.pcap_export.specs.Export.{frame_fault, first_wrong, export_number, exporting, export}
use Rattle.pcap_records.specs.Records.{cut_record, unequal_lengths, record_size, records_fault, with_check, captured_of, frames_of}
use Rattle.pcap_records.proofs.Laws.{fits}
use Rattle.pcap_records.proofs.Walks.{length_closed}
use Rattle.pcap_import.specs.Import.{header_fault, imported_frames}
use Rattle.pcap_import.proofs.Ways.{no_more}
use Rattle.pcap_forms.specs.Forms.{Sized, OneForm}
use Rattle.pcap_forms.proofs.Records.{AllExportable}
use Rattle.pcap_forms.proofs.Entries.{made_entries, made_form, made_right}
use Rattle.pcap_forms.proofs.Checks.{accepted}
use Rattle.pcap_forms.proofs.Back.{exports_all}

-- ---- a string as its words

next_word : (s : List ℕ) (k : ℕ) → Bytes s → k + 4 ≤ length s → drop k s ≡ word_bytes (word s k) ++ drop (k + 4) s
next_word s k b h =
    let d = length-drop k s in
    let z : k + 0 ≡ k = omega arith in
    one_word (drop k s) (bytes_drop k s b) (omega arith) ∙ rw (word_from s k 0, drop-drop 4 k s, z)

four_words : (s : List ℕ) → Bytes s → 16 ≤ length s → s ≡ head_bytes (word s 0) (word s 4) (word s 8) (word s 12) ++ drop 16 s
unfolding head_bytes word_bytes
four_words s b h =
    next_word s 0 b (omega arith)
    ∙ ap (λ (r : List ℕ). word_bytes (word s 0) ++ r)
    (next_word s 4 b (omega arith)
    ∙ ap (λ (r : List ℕ). word_bytes (word s 4) ++ r)
    (next_word s 8 b (omega arith) ∙ ap (λ (r : List ℕ). word_bytes (word s 8) ++ r) (next_word s 12 b (omega arith))))

-- ---- a record

-- a message with its check sequence, without it
unchecked : (m : List ℕ) → message (with_check m) ≡ m
unfolding message
unchecked m =
    let l = length_closed m in
    let k : length (with_check m) - 4 ≡ length m = omega arith in
    rw k (take_at m (check_sequence m) (length m) refl)

-- bytes with equal lengths that say how many follow
one_record : (x : List ℕ) → Bytes x → length x ≡ 16 + word x 8 → word x 8 ≡ word x 12 → x ≡ record_bytes (captured_of x)
unfolding record_bytes
one_record x b l e =
    let d = length-drop 16 x in
    let u = unchecked (drop 16 x) in
    let n : word x 8 ≡ length (message (with_check (drop 16 x))) = rw u (omega arith) in
    four_words x b (omega arith)
    ∙ ap (λ (w : ℕ). head_bytes (word x 0) (word x 4) (word x 8) w ++ drop 16 x) (sym e)
    ∙ ap (λ (w : ℕ). head_bytes (word x 0) (word x 4) w w ++ drop 16 x) n
    ∙ ap (λ (m : List ℕ). head_bytes (word x 0) (word x 4) (length (message (with_check (drop 16 x)))) (length (message (with_check (drop 16 x)))) ++ m) (sym u)

-- the record at the front of a string
record Front (s : List ℕ) : Type 0 where
  pub size : record_size s ≡ 16 + word s 8
  pub equal : word s 8 ≡ word s 12

front_of : (s : List ℕ) → (record_size s ≡ 0 → ⊥) → Front s
unfolding record_size unequal_lengths
front_of s h =
    by_bool (cut_record s) (λ t. absurd (h (rw t)))
    (λ t.
    by_bool (unequal_lengths s) (λ u. absurd (h (rw (t, u))))
    (λ u. record { size = rw (t, u); equal = eqb-true (word s 8) (word s 12) (said_yes (eqb (word s 8) (word s 12)) _ refl u) }))

front_record : (s : List ℕ) → Bytes s → (record_size s ≡ 0 → ⊥) → take (record_size s) s ≡ record_bytes (captured_of (take (record_size s) s))
front_record s b h =
    let f = front_of s h in
    let n = f.size in
    let x = take (record_size s) s in
    let l : length x ≡ record_size s =
    let k = fits s in
    length-take (record_size s) s ∙ omega arith in
    let w8 : word x 8 ≡ word s 8 = word_in s 0 (record_size s) 8 (omega arith) in
    let w12 : word x 12 ≡ word s 12 = word_in s 0 (record_size s) 12 (omega arith) in
    one_record x (bytes_take (record_size s) s b) (omega arith) (w8 ∙ f.equal ∙ sym w12)

records_by : (n : ℕ) (s : List ℕ) → Bytes s → joined (pieces_by record_size n s) ≡ records_bytes (map captured_of (pieces_by record_size n s))
unfolding pieces_by records_bytes
records_by zero s b = refl
records_by (suc n) s b =
    by_bool (eqb (record_size s) 0) (λ t. rw t)
    (λ t.
    rw t (ap₂ (λ (x y : List ℕ). x ++ y) (front_record s b (eqb-false (record_size s) 0 t)) (records_by n (drop (record_size s) s) (bytes_drop (record_size s) s b))))

-- ---- the header

record Header (file : List ℕ) : Type 0 where
  pub long : 24 ≤ length file
  pub is_magic : word file 0 ≡ magic
  pub is_version : word file 4 ≡ version
  pub is_link : word file 20 ≡ link_type

header_of : (file : List ℕ) → header_fault file ≡ 0 → Header file
unfolding header_fault
header_of file e =
    let a = passed (ltb (length file) 24) 31 _ (omega arith) e in
    let b = passed (not (eqb (word file 0) magic)) 32 _ (omega arith) a.1 in
    let c = passed (not (eqb (word file 4) version)) 33 _ (omega arith) b.1 in
    let d = passed (not (eqb (word file 20) link_type)) 34 0 (omega arith) c.1 in
    record {
      long = ltb-false (length file) 24 a.0;
      is_magic = eqb-true (word file 0) magic (said_yes (eqb (word file 0) magic) _ refl b.0);
      is_version = eqb-true (word file 4) version (said_yes (eqb (word file 4) version) _ refl c.0);
      is_link = eqb-true (word file 20) link_type (said_yes (eqb (word file 20) link_type) _ refl d.0);
    }

whole_header : (file : List ℕ) → Bytes file → Header file → word file 8 ≡ zone → word file 12 ≡ accuracy → word file 16 ≡ snap_length
    → file ≡ header_bytes ++ drop 24 file
unfolding header_bytes word_bytes
whole_header file b h ez ea es =
    let l = h.long in
    let w : (k v : ℕ) → k + 4 ≤ length file → word file k ≡ v → drop k file ≡ word_bytes v ++ drop (k + 4) file =
    (λ k v g e. next_word file k b g ∙ ap (λ (x : ℕ). word_bytes x ++ drop (k + 4) file) e) in
    let s₀ = w 0 magic (omega arith) h.is_magic in
    let s₁ = w 4 version (omega arith) h.is_version in
    let s₂ = w 8 zone (omega arith) ez in
    let s₃ = w 12 accuracy (omega arith) ea in
    let s₄ = w 16 snap_length (omega arith) es in
    let s₅ = w 20 link_type (omega arith) h.is_link in
    s₀
    ∙ ap (λ (r : List ℕ). word_bytes magic ++ r)
    (s₁
    ∙ ap (λ (r : List ℕ). word_bytes version ++ r)
    (s₂
    ∙ ap (λ (r : List ℕ). word_bytes zone ++ r)
    (s₃ ∙ ap (λ (r : List ℕ). word_bytes accuracy ++ r) (s₄ ∙ ap (λ (r : List ℕ). word_bytes snap_length ++ r) s₅))))

-- ---- the file

module _ (file : List ℕ) (b : Bytes file) (header : header_fault file ≡ 0) (ez : word file 8 ≡ zone) (ea : word file 12 ≡ accuracy) (es : word file 16 ≡ snap_length) where
  made_of : records_fault (drop 24 file) ≡ 0 → file ≡ capture_bytes (imported_frames file)
  unfolding capture_bytes frames_of
  made_of e =
      let s = drop 24 file in
      let bs = bytes_drop 24 file b in
      let all : s ≡ records_bytes (map captured_of (pieces record_size s)) =
      sym (whole record_size fits s (no_more s e)) ∙ records_by (length s) s bs in
      whole_header file b (header_of file header) ez ea es ∙ ap (λ (r : List ℕ). header_bytes ++ r) all

-- ---- what export makes of what was imported

right_of : (f : List ℕ) → check_right f ≡ true → 60 ≤ length (message f) → length (message f) ≤ 1514 → (frame_fault f ≡ 0) × (length f ≤ 1518)
unfolding frame_fault length_allowed
right_of f c l h =
    let m = length_message f in
    let a = and_yes _ _ (le-leb 64 (length f) (omega arith)) (le-leb (length f) 1518 (omega arith)) in
    (sym (if_no _ _ _ _ (not_no _ a) (if_no _ _ _ _ (not_no _ c) refl)), omega arith)

exportable_by : (n : ℕ) (s : List ℕ) → Bytes s → Sized (map captured_of (pieces_by record_size n s)) → AllExportable (map captured_of (pieces_by record_size n s))
unfolding pieces_by
exportable_by zero s b = λ e. tt
exportable_by (suc n) s b =
    by_bool (eqb (record_size s) 0) (λ t. rw t (λ e. tt))
    (λ t. rw t (λ e.
    let x = take (record_size s) s in
    let bx = bytes_take (record_size s) s b in
    let r = right_of (captured_of x).frame (closed_message_right (drop 16 x)) e.0.0 e.0.1 in (
      record { seconds = word_small x bx 0; microseconds = word_small x bx 4; right = r.0; few = r.1 },
      exportable_by n (drop (record_size s) s) (bytes_drop (record_size s) s b) e.1,
    )))

pub room_enough : (cs : List Captured) (room : List ℕ) → AllExportable cs → length (capture_bytes cs) ≤ length room → export_number (list_bytes cs) (length room) ≡ 0
unfolding export_number
room_enough cs room a l =
    let r : first_wrong (entries_of (list_bytes cs)) ≡ 0 = rw (made_entries cs a) (made_right cs a) in
    let k : length (capture_bytes (entries_of (list_bytes cs))) ≤ length room = rw (made_entries cs a) l in
    sym (if_no _ _ _ _ (not_no _ (made_form cs a)) (passed_by _ _ 0 0 (sym r) refl (if_no _ _ _ _ (le-ltb (length room) (length (capture_bytes (entries_of (list_bytes cs)))) k) refl)))

exports_back : (cs : List Captured) (file room : List ℕ) → AllExportable cs → file ≡ capture_bytes cs → length file ≤ length room
    → export (list_bytes cs) room ≡ exporting (record { number = 0; bytes = length file; frames = length cs }) (store room 0 file)
exports_back cs file room a e l =
    exports_all (list_bytes cs) room (room_enough cs room a (rw e at l)) ∙ rw (made_entries cs a, e)

pub one_form : OneForm
unfolding frames_of
one_form file events times b e ez ea es sized =
    let ok = accepted file events times e in
    let only = made_of file b ok.0 ez ea es ok.1.0 in
    let a = exportable_by (length (drop 24 file)) (drop 24 file) (bytes_drop 24 file b) sized in
    record { only = only; exports = λ room l. exports_back (imported_frames file) file room a only l }
