-- The ways out of the test and of the export. Assumes nothing.
use Prim.Native.Nat.{ℕ, ◌+◌, ◌-◌, ◌≤◌, ◌<◌}
use mathlib.Core.Path.{◌≡◌, refl, sym, ap, ◌∙◌}
use mathlib.Core.Bool.{Bool, true, false, not, true≢false}
use mathlib.Core.List.{List, ◌++◌}
use native.Mathlib.Omega.{arith}
use lib.Dec.{ltb}
use lib.ListN.{length}
use borrow.Author.Tests.{lt-ltb, le-ltb, eq-eqb, ne_eqb, ltb-false}
use Rattle.rules.proofs.Choices.{by_bool, if_yes, if_no, passed, neither, refused_by, passed_by, said_yes, said_no, not_yes, not_no}
use Rattle.std.proofs.Common.{Result, Ok, Err}
use Rattle.std.specs.Result.{IsErr, IsErrAnd}
use Rattle.answer.specs.declared.Refusal.{Refusal}
use Rattle.answer.specs.Refusals.{refusal_number}
use Rattle.memory.specs.Memory.{store}
use Rattle.memory.proofs.Stores.{store_append, length_store}
use Rattle.fcs.specs.CheckSequence.{check_right}
use Rattle.frame.specs.Length.{length_allowed}
use Rattle.pcap.specs.Capture.{header_bytes, records_bytes, capture_bytes}
use Rattle.pcap.proofs.Laws.{length_header}
use Rattle.pcap_list.specs.Entries.{entries_of, of_its_form, listed}
use Rattle.pcap_export.specs.Export.{frame_fault, first_wrong, export_number, Answer, answer_of, exporting, export}
use Rattle.pcap_export.specs.declared.Exported.{Exported}
use Rattle.pcap_export.specs.Places.{NoneWrong}
use Rattle.pcap_export.proofs.Lengths.{length_capture}

-- ---- a frame

module _ (f : List ℕ) where
  pub wrong_length : (t : Bool) → t ≡ length_allowed (length f) → not t ≡ true → 4 ≡ frame_fault f
  unfolding frame_fault
  wrong_length t e h = if_yes _ _ _ _ (not_yes _ (said_no _ t e h)) refl

  module _ (t : Bool) (e : t ≡ length_allowed (length f)) (h : not t ≡ false) where
    pub wrong_check : (u : Bool) → u ≡ check_right f → not u ≡ true → 5 ≡ frame_fault f
    unfolding frame_fault
    wrong_check u d g = if_no _ _ _ _ (not_no _ (said_yes _ t e h)) (if_yes _ _ _ _ (not_yes _ (said_no _ u d g)) refl)

    pub no_fault : (u : Bool) → u ≡ check_right f → not u ≡ false → 0 ≡ frame_fault f
    unfolding frame_fault
    no_fault u d g = if_no _ _ _ _ (not_no _ (said_yes _ t e h)) (if_no _ _ _ _ (not_no _ (said_yes _ u d g)) refl)

-- ---- the number

-- the two cases of the walk's answer, told apart, and the number that it has in both
abbrev whole : Result ℕ ℕ → Bool
whole (Ok n) = true
whole (Err n) = false

abbrev counted : Result ℕ ℕ → ℕ
counted (Ok n) = n
counted (Err n) = n

-- how many frames a list of its form has, as the walk answers it
module _ (list : List ℕ) (room : ℕ) where
  pub not_of_its_form : (n : ℕ) → Err n ≡ listed list → 29 ≡ export_number list room
  unfolding export_number
  not_of_its_form n w =
      if_yes _ _ _ _
      (ap not (
      by_bool (of_its_form list) (λ t. let q : ◌≡◌ {A = Result ℕ ℕ} (Err n) (Ok (length (entries_of list))) = w ∙ rw t refl in absurd (true≢false (sym (ap whole q))))
      (λ t. t)))
      refl

  module _ (frames : ℕ) (w : Ok frames ≡ listed list) where
    form : of_its_form list ≡ true
    form =
        by_bool (of_its_form list) (λ t. t)
        (λ t. let q : ◌≡◌ {A = Result ℕ ℕ} (Ok frames) (Err (length (entries_of list))) = w ∙ rw t refl in absurd (true≢false (ap whole q)))

    pub frames_are : frames ≡ length (entries_of list)
    frames_are = ap counted w ∙ rw form refl

    module _ (n : ℕ) (e : n ≡ first_wrong (entries_of list)) where
      pub wrong_frame : (n ≡ 0 → ⊥) → n ≡ export_number list room
      unfolding export_number
      wrong_frame z = if_no _ _ _ _ (ap not form) (refused_by _ _ n e z)

      module _ (z : n ≡ 0) where
        needs : length (capture_bytes (entries_of list)) ≡ 24 + length list
        needs = length_capture list form (sym e ∙ z)

        no_room : room < 24 + length list → 30 ≡ export_number list room
        unfolding export_number
        no_room l =
            if_no _ _ _ _ (ap not form)
            (passed_by _ _ n 30 e z (if_yes _ _ _ _ (lt-ltb room (length (capture_bytes (entries_of list))) (rw needs l)) refl))

        pub no_header : room < 24 → 30 ≡ export_number list room
        no_header l = no_room (omega arith)

        pub no_records : 24 ≤ room → room - 24 < length list → 30 ≡ export_number list room
        no_records g l = no_room (omega arith)

        pub enough : 24 ≤ room → length list ≤ room - 24 → 0 ≡ export_number list room
        unfolding export_number
        enough g l =
            if_no _ _ _ _ (ap not form)
            (passed_by _ _ n 0 e z (if_no _ _ _ _ (le-ltb room (length (capture_bytes (entries_of list))) (rw needs (omega arith))) refl))

-- what a list has that is not refused
pub accepted : (list : List ℕ) (room : ℕ) → 0 ≡ export_number list room
    → (of_its_form list ≡ true) × (NoneWrong list × (24 + length list ≤ room))
unfolding export_number
accepted list room e =
    let a = passed (not (of_its_form list)) 29 _ (omega arith) (sym e) in
    let form = said_yes (of_its_form list) _ refl a.0 in
    let b = neither (first_wrong (entries_of list)) _ a.1 in
    let c = passed (ltb room (length (capture_bytes (entries_of list)))) 30 0 (omega arith) b.1 in
    let l = ltb-false room (length (capture_bytes (entries_of list))) c.0 in
    let k = length_capture list form b.0 in
    (form, (b.0, omega arith))

-- ---- the export

-- an answer that a `?` hands on
answer_refused : (r : Result Exported Refusal) (e : Refusal) → IsErr r × IsErrAnd r (λ x. x ≡ e)
    → answer_of r ≡ record { number = refusal_number e; bytes = 0; frames = 0 }
answer_refused (Ok x) e p = absurd (true≢false (sym p.0))
answer_refused (Err x) e p = ap (λ (y : Refusal). record { number = refusal_number y; bytes = 0; frames = 0 }) p.1

module _ (list room : List ℕ) (n : ℕ) (e : n ≡ export_number list (length room)) where
  pub refuses : (n ≡ 0 → ⊥) → exporting (record { number = n; bytes = 0; frames = 0 }) room ≡ export list room
  unfolding export
  refuses z = rw (← e) (if_no _ _ _ _ (ne_eqb n 0 z) refl)

  pub refuses_too : (r : Result Exported Refusal) (x : Refusal) → IsErr r × IsErrAnd r (λ y. y ≡ x) → refusal_number x ≡ n → (n ≡ 0 → ⊥)
      → exporting (answer_of r) room ≡ export list room
  refuses_too r x p i z =
      ap (λ (a : Answer). exporting a room) (answer_refused r x p)
      ∙ ap (λ (k : ℕ). exporting (record { number = k; bytes = 0; frames = 0 }) room) i
      ∙ refuses z

  -- the room behind the header
  pub not_refused : (m : List ℕ) → n ≡ 0 → m ≡ store room 0 header_bytes → NoneWrong list × (24 + length list ≤ length m)
  not_refused m z em =
      let a = accepted list (length room) (sym z ∙ e) in
      let l : length m ≡ length room = ap length em ∙ length_store room 0 header_bytes in
      (a.1.0, rw l a.1.1)

  pub exports : (frames : ℕ) (m m' : List ℕ) → frames ≡ length (entries_of list) → n ≡ 0 → m ≡ store room 0 header_bytes
      → m' ≡ store m 24 (records_bytes (entries_of list))
      → exporting (record { number = 0; bytes = 24 + length list; frames = frames }) m' ≡ export list room
  unfolding export capture_bytes
  exports frames m m' w z em e' =
      let a = accepted list (length room) (sym z ∙ e) in
      let k : 24 + length list ≡ length (capture_bytes (entries_of list)) = sym (length_capture list a.0 a.1.0) in
      let l = length_header in
      let j : 24 ≡ 0 + length header_bytes = omega arith in
      let both : m' ≡ store room 0 (header_bytes ++ records_bytes (entries_of list)) =
      e' ∙ rw em (store_append room 0 24 header_bytes (records_bytes (entries_of list)) j) in
      rw (← e) (if_yes _ _ _ _ (eq-eqb n 0 z) (λ i. exporting (record { number = 0; bytes = k i; frames = w i }) (both i)))
