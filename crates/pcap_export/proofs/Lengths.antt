-- An entry of a list and its record have as many bytes, and so a capture has 24 more than its list. Assumes nothing.
use Prim.Native.Nat.{ℕ, zero, suc, ◌+◌, ◌≤◌}
use mathlib.Core.Path.{◌≡◌, refl, ◌∙◌}
use mathlib.Core.Bool.{true, not}
use mathlib.Core.List.{List, map}
use native.Mathlib.Omega.{arith}
use lib.Dec.{eqb, leb}
use lib.ListN.{length, take, drop, length-append, length-take, length-drop}
use borrow.Author.Tests.{eqb-true, eqb-false, leb-true}
use Rattle.std.specs.Prelude.{if◌then◌else◌}
use Rattle.rules.proofs.Choices.{by_bool, passed, neither, and_parts, said_yes}
use Rattle.fcs.specs.CheckSequence.{check_right}
use Rattle.frame.specs.Length.{length_allowed}
use Rattle.pieces.specs.Pieces.{pieces_by, pieces, sizes}
use Rattle.pcap.specs.Capture.{header_bytes, record_bytes, records_bytes, capture_bytes}
use Rattle.pcap.proofs.Laws.{length_header, length_record}
use Rattle.pcap_list.specs.Entries.{entry_size, entry_of, entries_of, of_its_form}
use Rattle.pcap_list.proofs.Laws.{fits, least}
use Rattle.pcap_export.specs.Export.{frame_fault, first_wrong}

-- a frame that is not wrong has its check sequence at least, and that is right
pub right_frame : (f : List ℕ) → frame_fault f ≡ 0 → (4 ≤ length f) × (check_right f ≡ true)
unfolding frame_fault length_allowed
right_frame f e =
    let a = passed (not (length_allowed (length f))) 4 (if not (check_right f) then 5 else 0) (omega arith) e in
    let b = passed (not (check_right f)) 5 0 (omega arith) a.1 in
    let l = leb-true 64 (length f) (and_parts (leb 64 (length f)) (leb (length f) 1518) (said_yes (length_allowed (length f)) _ refl a.0)).0 in
    (omega arith, said_yes (check_right f) _ refl b.0)

-- the record of an entry
pub length_entry : (x : List ℕ) → 12 ≤ length x → frame_fault (entry_of x).frame ≡ 0 → length (record_bytes (entry_of x)) ≡ length x
length_entry x h e =
    let d = length-drop 12 x in
    let l = (right_frame (drop 12 x) e).0 in
    length_record (entry_of x) ∙ omega arith

-- all records
records_by : (n : ℕ) (s : List ℕ) → first_wrong (map entry_of (pieces_by entry_size n s)) ≡ 0
    → length (records_bytes (map entry_of (pieces_by entry_size n s))) ≡ sizes (pieces_by entry_size n s)
unfolding pieces_by records_bytes first_wrong
records_by zero s = λ e. refl
records_by (suc n) s =
    by_bool (eqb (entry_size s) 0) (λ t. rw t (λ e. refl))
    (λ t. rw t (λ e.
    let some = least s (eqb-false (entry_size s) 0 t) in
    let x = take (entry_size s) s in
    let f = fits s in
    let k = length-take (entry_size s) s in
    let both = neither (frame_fault (entry_of x).frame) (first_wrong (map entry_of (pieces_by entry_size n (drop (entry_size s) s)))) e in
    let one = length_entry x (omega arith) both.0 in
    let rest = records_by n (drop (entry_size s) s) both.1 in
    length-append (record_bytes (entry_of x)) (records_bytes (map entry_of (pieces_by entry_size n (drop (entry_size s) s)))) ∙ omega arith))

pub length_capture : (list : List ℕ) → of_its_form list ≡ true → first_wrong (entries_of list) ≡ 0
    → length (capture_bytes (entries_of list)) ≡ 24 + length list
unfolding of_its_form entries_of capture_bytes
length_capture list h e =
    let s = eqb-true (sizes (pieces entry_size list)) (length list) h in
    let r = records_by (length list) list e in
    let a = length-append header_bytes (records_bytes (map entry_of (pieces entry_size list))) in
    let l = length_header in
    omega arith
