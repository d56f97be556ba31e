-- The ways out of the header's test, of what a capture says, and of the import. Assumes nothing.
use Prim.Native.Nat.{ℕ, ◌+◌, ◌-◌, ◌*◌, ◌≤◌, ◌<◌}
use mathlib.Core.Path.{◌≡◌, refl, sym, ap, ◌∙◌}
use mathlib.Core.Bool.{true, false, not, true≢false}
use mathlib.Core.List.{List}
use native.Mathlib.Omega.{arith}
use lib.Dec.{eqb, ltb}
use lib.ListN.{length, drop}
use borrow.Author.Tests.{lt-ltb, le-ltb, eq-eqb, ne_eqb, eqb-true, eqb-false}
use Rattle.std.specs.Prelude.{if◌then◌else◌}
use Rattle.std.proofs.Common.{Result, Ok, Err}
use Rattle.std.specs.Result.{IsErr, IsErrAnd}
use Rattle.answer.specs.declared.Refusal.{Refusal}
use Rattle.answer.specs.Refusals.{refusal_number}
use Rattle.answer.proofs.Laws.{not_done}
use Rattle.rules.proofs.Choices.{by_bool, passed, if_yes, if_no, or_yes, or_last, or_no, said_yes, said_no, not_yes, not_no, passed_by, refused_by, said_eq, said_ne}
use Rattle.memory.specs.Memory.{word, store}
use Rattle.pieces.specs.Pieces.{pieces, sizes, behind}
use Rattle.pieces.proofs.Joined.{all_bytes}
use Rattle.pieces.proofs.Turns.{stopped}
use Rattle.pcap_records.specs.declared.Walked.{Walked}
use Rattle.pcap_records.specs.Records.{cut_record, unequal_lengths, record_size, record_fault, records_fault, frames_of, all_storable, walked}
use Rattle.pcap_records.proofs.Laws.{fits}
use Rattle.pcap_import.specs.Import.{header_fault, imported_frames, events_of, times_of, too_little, import_number, Answer, look, answer_of, importing, import}
use Rattle.pcap_import.specs.declared.Imported.{Imported}
use Rattle.pcap_import.proofs.Lengths.{length_events, length_times}

-- ---- the header

module _ (f : List ℕ) where
  pub cut_header : length f < 24 → 31 ≡ header_fault f
  unfolding header_fault
  cut_header h = if_yes _ _ _ _ (lt-ltb (length f) 24 h) refl

  module _ (l : 24 ≤ length f) (a : ℕ) (ea : a ≡ word f 0) where
    long : ltb (length f) 24 ≡ false
    long = le-ltb (length f) 24 l

    pub other_magic : (a ≡ 0xa1b2_c3d4 → ⊥) → 32 ≡ header_fault f
    unfolding header_fault
    other_magic h = if_no _ _ _ _ long (if_yes _ _ _ _ (not_yes _ (said_ne _ a _ ea h)) refl)

    module _ (g : a ≡ 0xa1b2_c3d4) (b : ℕ) (eb : b ≡ word f 4) where
      pub other_version : (b ≡ 0x0004_0002 → ⊥) → 33 ≡ header_fault f
      unfolding header_fault
      other_version h =
          if_no _ _ _ _ long (if_no _ _ _ _ (not_no _ (said_eq _ a _ ea g)) (if_yes _ _ _ _ (not_yes _ (said_ne _ b _ eb h)) refl))

      module _ (k : b ≡ 0x0004_0002) (c : ℕ) (ec : c ≡ word f 20) where
        pub other_link : (c ≡ 1 → ⊥) → 34 ≡ header_fault f
        unfolding header_fault
        other_link h =
            if_no _ _ _ _ long
            (if_no _ _ _ _ (not_no _ (said_eq _ a _ ea g))
            (if_no _ _ _ _ (not_no _ (said_eq _ b _ eb k)) (if_yes _ _ _ _ (not_yes _ (said_ne _ c _ ec h)) refl)))

        pub right_header : c ≡ 1 → 0 ≡ header_fault f
        unfolding header_fault
        right_header h =
            if_no _ _ _ _ long
            (if_no _ _ _ _ (not_no _ (said_eq _ a _ ea g))
            (if_no _ _ _ _ (not_no _ (said_eq _ b _ eb k)) (if_no _ _ _ _ (not_no _ (said_eq _ c _ ec h)) refl)))

-- ---- what a capture says

-- a refusal
refusing : (f : List ℕ) (events times n : ℕ) (r : Answer) → n ≡ import_number f events times → (n ≡ 0 → ⊥)
    → r ≡ record { number = n; bytes = 0; frames = 0 } → r ≡ look f events times
unfolding look
refusing f events times n r e h er = er ∙ rw (← e) (if_no _ _ _ _ (ne_eqb n 0 h) refl)

-- records of which none is wrong are all of their bytes
pub no_more : (s : List ℕ) → records_fault s ≡ 0 → sizes (pieces record_size s) ≡ length s
unfolding records_fault record_fault record_size
no_more s e =
    let r = behind record_size s in
    let b = all_bytes record_size fits s in
    let stops : record_size r ≡ 0 = stopped record_size fits s in
    by_bool (eqb (length r) 0)
    (λ t.
    let none = eqb-true (length r) 0 t in
    omega arith)
    (λ t.
    let one = passed (cut_record r) 35 (if unequal_lengths r then 36 else 0) (omega arith) (rw t at e) in
    let two = passed (unequal_lengths r) 36 0 (omega arith) one.1 in
    absurd (let q : 16 + word r 8 ≡ 0 = rw (one.0, two.0) at stops in omega arith))

module _ (f : List ℕ) (events times : ℕ) (h : ℕ) (eh : h ≡ header_fault f) where
  pub bad_header : (r : Answer) → (h ≡ 0 → ⊥) → r ≡ record { number = h; bytes = 0; frames = 0 } → r ≡ look f events times
  unfolding import_number
  bad_header r z er = refusing f events times h r (refused_by _ _ h eh z) z er

  module _ (z : h ≡ 0) (s : List ℕ) (es : s ≡ drop 24 f) (k : ℕ) (ek : k ≡ records_fault s) where
    number_is : k ≡ records_fault (drop 24 f)
    number_is = ek ∙ rw es

    pub bad_record : (r : Answer) → (k ≡ 0 → ⊥) → r ≡ record { number = k; bytes = 0; frames = 0 } → r ≡ look f events times
    unfolding import_number
    bad_record r y er = refusing f events times k r (passed_by _ _ h _ eh z (refused_by _ _ k number_is y)) y er

    module _ (y : k ≡ 0) (w : Walked) (ew : w ≡ walked s) where
      frames_are : w.frames ≡ length (imported_frames f)
      frames_are = ap (λ (v : Walked). v.frames) ew ∙ rw es

      fit_is : w.storable ≡ all_storable (imported_frames f)
      fit_is = ap (λ (v : Walked). v.storable) ew ∙ rw es

      -- what the events need
      pub need : (length (events_of (imported_frames f)) + 7 * w.frames ≡ length s) × (16 * w.frames ≤ length s)
      need =
          let l = length_events (drop 24 f) in
          let a = l.0 in
          let b = l.1 in
          let n = no_more (drop 24 f) (sym number_is ∙ y) in
          let k = ap length es in
          let c = frames_are in
          (omega arith, omega arith)

      little : (r : Answer) → too_little (imported_frames f) events times ≡ true → r ≡ record { number = 37; bytes = 0; frames = 0 } → r ≡ look f events times
      unfolding import_number
      little r t er =
          refusing f events times 37 r
          (passed_by _ _ h _ eh z (passed_by _ _ k _ number_is y (if_yes _ _ _ _ t refl)))
          (λ q. omega arith) er

      pub not_storable : (r : Answer) → not w.storable ≡ true → r ≡ record { number = 37; bytes = 0; frames = 0 } → r ≡ look f events times
      unfolding too_little
      not_storable r t er = little r (or_yes _ _ (not_yes _ (said_no _ w.storable fit_is t))) er

      module _ (g : not w.storable ≡ false) where
        fit : not (all_storable (imported_frames f)) ≡ false
        fit = not_no _ (said_yes _ w.storable fit_is g)

        pub no_events : (r : Answer) → events < length s - 7 * w.frames → r ≡ record { number = 37; bytes = 0; frames = 0 } → r ≡ look f events times
        unfolding too_little
        no_events r t er =
            let n = need.0 in
            little r (or_last _ _ fit (or_yes _ _ (lt-ltb events (length (events_of (imported_frames f))) (omega arith)))) er

        module _ (u : length s - 7 * w.frames ≤ events) where
          enough : ltb events (length (events_of (imported_frames f))) ≡ false
          enough =
              let n = need.0 in
              le-ltb events (length (events_of (imported_frames f))) (omega arith)

          pub no_times : (r : Answer) → times < 8 * w.frames → r ≡ record { number = 37; bytes = 0; frames = 0 } → r ≡ look f events times
          unfolding too_little
          no_times r t er =
              let n = length_times (imported_frames f) in
              let c = frames_are in
              little r (or_last _ _ fit (or_last _ _ enough (lt-ltb times (length (times_of (imported_frames f))) (omega arith)))) er

          done : 8 * w.frames ≤ times → 0 ≡ import_number f events times
          unfolding import_number too_little
          done t =
              let n = length_times (imported_frames f) in
              let c = frames_are in
              let room = or_no _ _ fit (or_no _ _ enough (le-ltb times (length (times_of (imported_frames f))) (omega arith))) in
              passed_by _ _ h _ eh z (passed_by _ _ k _ number_is y (if_no _ _ _ _ room refl))

          pub says : 8 * w.frames ≤ times
              → ◌≡◌ {A = Answer} (record { number = 0; bytes = length s - 7 * w.frames; frames = w.frames }) (look f events times)
          unfolding look
          says t =
              let c = frames_are in
              let d = need.0 in
              let zero = done t in
              let bytes : length s - 7 * w.frames ≡ length (events_of (imported_frames f)) = omega arith in
              if_yes _ _ _ _ (eq-eqb (import_number f events times) 0 (sym zero)) (λ i. record { number = 0; bytes = bytes i; frames = c i })

-- ---- the import

-- an answer that a `?` hands on
pub answer_refused : (r : Result Imported Refusal) (e : Refusal) → IsErr r × IsErrAnd r (λ x. x ≡ e)
    → answer_of r ≡ record { number = refusal_number e; bytes = 0; frames = 0 }
answer_refused (Ok x) e p = absurd (true≢false (sym p.0))
answer_refused (Err x) e p = ap (λ (y : Refusal). record { number = refusal_number y; bytes = 0; frames = 0 }) p.1

pub not_zero : (e : Refusal) → refusal_number e ≡ 0 → ⊥
not_zero e = eqb-false (refusal_number e) 0 (not_done e)

module _ (f events times : List ℕ) (i : Answer) (e : i ≡ look f (length events) (length times)) where
  same : eqb i.number 0 ≡ eqb (look f (length events) (length times)).number 0
  same = ap (λ (j : Answer). eqb j.number 0) e

  pub imports : (s events' times' : List ℕ) → i.number ≡ 0 → s ≡ drop 24 f
      → (events' ≡ store events 0 (events_of (frames_of s))) × (times' ≡ store times 0 (times_of (frames_of s)))
      → importing i events' times' ≡ import f events times
  unfolding import
  imports s events' times' z es p =
      let pe : events' ≡ store events 0 (events_of (imported_frames f)) = rw es at p.0 in
      let pt : times' ≡ store times 0 (times_of (imported_frames f)) = rw es at p.1 in
      if_yes _ _ _ _ (sym same ∙ eq-eqb i.number 0 z) (λ k. importing (e k) (pe k) (pt k))

  pub refuses : (i.number ≡ 0 → ⊥) → importing i events times ≡ import f events times
  unfolding import
  refuses h = if_no _ _ _ _ (sym same ∙ ne_eqb i.number 0 h) (λ k. importing (e k) events times)

  pub refuses_too : (r : Result Imported Refusal) (x : Refusal) → IsErr r × IsErrAnd r (λ y. y ≡ x)
      → record { number = refusal_number x; bytes = 0; frames = 0 } ≡ i → importing (answer_of r) events times ≡ import f events times
  refuses_too r x p q =
      ap (λ (a : Answer). importing a events times) (answer_refused r x p ∙ q) ∙ refuses (λ z. not_zero x (ap (λ (a : Answer). a.number) q ∙ z))
