-- Import is refused exactly in the situations named, a refusal changes nothing, and of the header three numbers are not read.
-- Assumes nothing.
use Prim.Native.Nat.{ℕ, zero, suc, ◌+◌, ◌≤◌, ◌<◌}
use mathlib.Core.Path.{◌≡◌, refl, sym, ap, ◌∙◌}
use mathlib.Core.Bool.{true, false, not, ◌||◌}
use mathlib.Core.Logic.{◌⊎◌, inl, inr}
use mathlib.Core.List.{List}
use native.Mathlib.Omega.{arith}
use native.Mathlib.Nat.{zero-add}
use lib.Dec.{eqb, ltb}
use lib.ListN.{length, take, drop, length-take}
use lib.Seq.{drop-drop}
use borrow.Author.Tests.{ltb-true, ltb-false, eq-eqb, ne_eqb, eqb-true, eqb-false}
use Rattle.rules.proofs.Choices.{by_bool, either, or_parts, said_yes, said_no}
use Rattle.memory.specs.Memory.{word}
use Rattle.memory.proofs.Parts.{word_from, word_in}
use Rattle.pieces.specs.Pieces.{pieces_by, pieces, behind}
use Rattle.pieces.proofs.Joined.{together, whole}
use Rattle.pcap.specs.Capture.{Captured, magic, version, link_type}
use Rattle.pcap_records.specs.Records.{cut_record, unequal_lengths, record_size, record_fault, records_fault, all_storable}
use Rattle.pcap_records.proofs.Laws.{fits}
use Rattle.pcap_import.specs.Import.{header_fault, imported_frames, events_of, times_of, too_little, import_number, look, import}
use Rattle.pcap_import.proofs.Lengths.{length_times}
use Rattle.pcap_import.proofs.Ways.{no_more}
use Rattle.pcap_refusals.specs.Import.{Header, Right, AllRight, FirstWrong, NoneWrong, TooLittle, Enough, Says, Exactly, ChangesNothing, Alike, NotRead}

-- ---- the records

abbrev Walked : List ℕ → Type 0
Walked s = (FirstWrong s (records_fault s) × (records_fault s ≡ 0 → ⊥)) ⊎ (NoneWrong s × (records_fault s ≡ 0))

-- a record at the front lies in the string
has_size : (s : List ℕ) → length (take (record_size s) s) ≡ record_size s
has_size s =
    let k = fits s in
    length-take (record_size s) s ∙ omega arith

-- the pieces of a string are right records
front_right : (s : List ℕ) → (record_size s ≡ 0 → ⊥) → Right (take (record_size s) s)
unfolding record_size unequal_lengths
front_right s h =
    by_bool (cut_record s) (λ t. absurd (h (rw t)))
    (λ t.
    by_bool (unequal_lengths s) (λ u. absurd (h (rw (t, u))))
    (λ u.
    let n : record_size s ≡ 16 + word s 8 = rw (t, u) in
    let e : word s 8 ≡ word s 12 = eqb-true (word s 8) (word s 12) (said_yes (eqb (word s 8) (word s 12)) _ refl u) in
    let l : length (take (record_size s) s) ≡ record_size s = has_size s in
    let w8 : word (take (record_size s) s) 8 ≡ word s 8 = word_in s 0 (record_size s) 8 (omega arith) in
    let w12 : word (take (record_size s) s) 12 ≡ word s 12 = word_in s 0 (record_size s) 12 (omega arith) in
    (omega arith, w8 ∙ e ∙ sym w12)))

pieces_right : (n : ℕ) (s : List ℕ) → AllRight (pieces_by record_size n s)
unfolding pieces_by
pieces_right zero s = tt
pieces_right (suc n) s =
    by_bool (eqb (record_size s) 0) (λ t. rw t tt)
    (λ t. rw t (front_right s (eqb-false (record_size s) 0 t), pieces_right n (drop (record_size s) s)))

none_wrong : (s : List ℕ) → records_fault s ≡ 0 → NoneWrong s
none_wrong s e =
    record { records = pieces record_size s; there = whole record_size fits s (no_more s e); right = pieces_right (length s) s }

-- the first that is wrong stands behind them
first_wrong_lem : (s : List ℕ) (n : ℕ) → 0 < length (behind record_size s)
    → ((cut_record (behind record_size s) ≡ true) × (n ≡ 35)) ⊎ ((cut_record (behind record_size s) ≡ false) × (unequal_lengths (behind record_size s) ≡ true) × (n ≡ 36))
    → FirstWrong s n
first_wrong_lem s n some wrong =
    record {
      before = pieces record_size s;
      rest = behind record_size s;
      there = together record_size fits s;
      right = pieces_right (length s) s;
      some = some;
      wrong = wrong;
    }

walked : (s : List ℕ) → Walked s
unfolding records_fault record_fault
walked s =
    let r = behind record_size s in
    by_bool (eqb (length r) 0) (λ t. let z : records_fault s ≡ 0 = rw t in inr (none_wrong s z, z))
    (λ t.
    let some = eqb-false (length r) 0 t in
    by_bool (cut_record r)
    (λ u. inl (first_wrong_lem s (records_fault s) (omega arith) (inl (u, rw (t, u))), λ q. let z : ◌≡◌ {A = ℕ} 35 0 = rw (t, u) at q in omega arith))
    (λ u.
    by_bool (unequal_lengths r)
    (λ v. inl (first_wrong_lem s (records_fault s) (omega arith) (inr (u, v, rw (t, u, v))), λ q. let z : ◌≡◌ {A = ℕ} 36 0 = rw (t, u, v) at q in omega arith))
    (λ v. let z : records_fault s ≡ 0 = rw (t, u, v) in inr (none_wrong s z, z))))

-- ---- the rooms

little : (cs : List Captured) (events times : ℕ) → too_little cs events times ≡ true → TooLittle cs events times
unfolding too_little
little cs events times t =
    by_either (either (not (all_storable cs)) (ltb events (length (events_of cs)) || ltb times (length (times_of cs))) t)
  where
    by_rooms : (ltb events (length (events_of cs)) ≡ true) ⊎ (ltb times (length (times_of cs)) ≡ true) → TooLittle cs events times
    by_rooms (inl e) = inr (inl (ltb-true events (length (events_of cs)) e))
    by_rooms (inr e) =
        let l = length_times cs in
        let k = ltb-true times (length (times_of cs)) e in
        inr (inr (omega arith))

    by_either : (not (all_storable cs) ≡ true) ⊎ ((ltb events (length (events_of cs)) || ltb times (length (times_of cs))) ≡ true) → TooLittle cs events times
    by_either (inl e) = inl (said_no (all_storable cs) _ refl e)
    by_either (inr e) = by_rooms (either (ltb events (length (events_of cs))) (ltb times (length (times_of cs))) e)

enough : (cs : List Captured) (events times : ℕ) → too_little cs events times ≡ false → Enough cs events times
unfolding too_little
enough cs events times t =
    let a = or_parts (not (all_storable cs)) (ltb events (length (events_of cs)) || ltb times (length (times_of cs))) t in
    let b = or_parts (ltb events (length (events_of cs))) (ltb times (length (times_of cs))) a.1 in
    let l = length_times cs in
    let k = ltb-false times (length (times_of cs)) b.1 in
    (said_yes (all_storable cs) _ refl a.0, ltb-false events (length (events_of cs)) b.0, omega arith)

-- ---- the number

module _ (file : List ℕ) (events times : ℕ) where
  -- a header that is asked for, then the records, then the room
  by_header : Header file → header_fault file ≡ 0 → Says file events times
  unfolding import_number
  by_header h e =
      by_walk (walked (drop 24 file)) e
    where
      by_walk : Walked (drop 24 file) → header_fault file ≡ 0 → Says file events times
      by_walk (inl a) e =
          inr (inr (inr (inr (inl (h, rw (eq-eqb (header_fault file) 0 e, ne_eqb (records_fault (drop 24 file)) 0 a.1) a.0)))))
      by_walk (inr a) e =
          let r = (eq-eqb (header_fault file) 0 e) in
          let q = (eq-eqb (records_fault (drop 24 file)) 0 a.1) in
          by_bool (too_little (imported_frames file) events times)
          (λ t. inr (inr (inr (inr (inr (inl (h, a.0, little (imported_frames file) events times t, rw (r, q, t))))))))
          (λ t. inr (inr (inr (inr (inr (inr (h, a.0, enough (imported_frames file) events times t, rw (r, q, t))))))))

  fault_cut : ltb (length file) 24 ≡ true → header_fault file ≡ 31
  unfolding header_fault
  fault_cut t = rw t

  module _ (t : ltb (length file) 24 ≡ false) where
    fault_magic : eqb (word file 0) magic ≡ false → header_fault file ≡ 32
    unfolding header_fault
    fault_magic u = rw (t, u)

    module _ (u : eqb (word file 0) magic ≡ true) where
      fault_version : eqb (word file 4) version ≡ false → header_fault file ≡ 33
      unfolding header_fault
      fault_version v = rw (t, u, v)

      module _ (v : eqb (word file 4) version ≡ true) where
        fault_link : eqb (word file 20) link_type ≡ false → header_fault file ≡ 34
        unfolding header_fault
        fault_link w = rw (t, u, v, w)

        fault_none : eqb (word file 20) link_type ≡ true → header_fault file ≡ 0
        unfolding header_fault
        fault_none w = rw (t, u, v, w)

  -- a refusal of the header
  by_fault : (n : ℕ) → header_fault file ≡ n → (n ≡ 0 → ⊥) → import_number file events times ≡ n
  unfolding import_number
  by_fault n e h = rw (e, ne_eqb n 0 h)

  exactly_of : Says file events times
  exactly_of =
      by_bool (ltb (length file) 24)
      (λ t. inl (ltb-true (length file) 24 t, by_fault 31 (fault_cut t) (λ q. omega arith)))
      (λ t.
      let long = ltb-false (length file) 24 t in
      by_bool (eqb (word file 0) magic)
      (λ u.
      let m = eqb-true (word file 0) magic u in
      by_bool (eqb (word file 4) version)
      (λ v.
      let k = eqb-true (word file 4) version v in
      by_bool (eqb (word file 20) link_type)
      (λ w. by_header (long, m, k, eqb-true (word file 20) link_type w) (fault_none t u v w))
      (λ w. inr (inr (inr (inl (long, m, k, eqb-false (word file 20) link_type w, by_fault 34 (fault_link t u v w) (λ q. omega arith)))))))
      (λ v. inr (inr (inl (long, m, eqb-false (word file 4) version v, by_fault 33 (fault_version t u v) (λ q. omega arith))))))
      (λ u. inr (inl (long, eqb-false (word file 0) magic u, by_fault 32 (fault_magic t u) (λ q. omega arith)))))

pub import_exactly : Exactly
import_exactly file events times = exactly_of file events times

pub import_changes_nothing : ChangesNothing
unfolding import look
import_changes_nothing file events times =
    by_bool (eqb (import_number file (length events) (length times)) 0)
    (λ t. rw t (λ h. absurd (h refl)))
    (λ t. rw (t, t) (λ h. (refl, refl, refl, refl)))

-- ---- "not read on import"

module _ (f g : List ℕ) (a : Alike f g) where
  same_front : (k : ℕ) → k + 4 ≤ 8 → word f k ≡ word g k
  same_front k h =
      let at : (l : List ℕ) → word (take 8 l) k ≡ word l k = λ l. word_in l 0 8 k h ∙ rw (zero-add k) in
      sym (at f) ∙ ap (λ (l : List ℕ). word l k) a.front ∙ at g

  same_link : word f 20 ≡ word g 20
  same_link = sym (word_from f 20 0) ∙ ap (λ (l : List ℕ). word l 0) a.rest ∙ word_from g 20 0

  same_records : drop 24 f ≡ drop 24 g
  same_records = sym (drop-drop 4 20 f) ∙ ap (λ (l : List ℕ). drop 4 l) a.rest ∙ drop-drop 4 20 g

  same_header : header_fault f ≡ header_fault g
  unfolding header_fault
  same_header = rw (a.long, same_front 0 (omega arith), same_front 4 (omega arith), same_link)

  same_number : (events times : ℕ) → import_number f events times ≡ import_number g events times
  unfolding import_number
  same_number events times = rw (same_header, same_records)

pub not_read : NotRead
unfolding import look
not_read f g events times a = rw (same_number f g a (length events) (length times), same_records f g a)
