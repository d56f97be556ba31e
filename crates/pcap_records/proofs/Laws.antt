-- The record at a place, by the ways out of the code. Assumes nothing.
use Prim.Native.Nat.{ℕ, ◌+◌, ◌-◌, ◌≤◌, ◌<◌}
use mathlib.Core.Path.{◌≡◌, refl, sym, ◌∙◌}
use mathlib.Core.Bool.{true, false}
use mathlib.Core.List.{List}
use native.Mathlib.Omega.{arith}
use lib.Dec.{eqb, ltb}
use lib.ListN.{length, drop, length-drop}
use borrow.Author.Tests.{lt-ltb, le-ltb, ltb-false, eq-eqb, ne_eqb}
use Rattle.rules.proofs.Choices.{by_test, if_yes, if_no, or_yes, or_last, or_no, or_parts}
use Rattle.std.proofs.Common.{Option, None, Some, Result, Ok, Err}
use Rattle.answer.specs.declared.Refusal.{Refusal}
use Rattle.answer.specs.declared.Refusal.TheVariants.{RecordCut, RecordLengths}
use Rattle.answer.specs.Refusals.{number_of}
use Rattle.memory.specs.Memory.{word}
use Rattle.memory.proofs.Parts.{word_from}
use Rattle.pieces.specs.Pieces.{unless_zero}
use Rattle.pieces.proofs.Options.{no_size, size_is}
use Rattle.pieces.proofs.Turns.{Fits}
use Rattle.pcap_records.specs.Records.{cut_record, unequal_lengths, record_size, record_fault, size_of}

-- ---- the size of a record

pub fits : Fits record_size
unfolding record_size cut_record
fits s =
    by_test (λ n. n ≤ length s) (cut_record s) _ _ (λ t. omega arith)
    (λ t.
    by_test (λ n. n ≤ length s) (unequal_lengths s) _ _ (λ u. omega arith)
    (λ u. ltb-false (length s) (16 + word s 8) (or_parts (ltb (length s) 16) (ltb (length s) (16 + word s 8)) t).1))

-- a record has its 16 bytes before the frame
pub least : (s : List ℕ) → (record_size s ≡ 0 → ⊥) → 16 ≤ record_size s
unfolding record_size
least s =
    by_test (λ n. (n ≡ 0 → ⊥) → 16 ≤ n) (cut_record s) _ _ (λ t h. absurd (h refl))
    (λ t. by_test (λ n. (n ≡ 0 → ⊥) → 16 ≤ n) (unequal_lengths s) _ _ (λ u h. absurd (h refl)) (λ u h. omega arith))

-- ---- what stands at a place, by the ways out of the code: its size, and what is wrong with it

-- the answer r
abbrev At : Result (Option ℕ) Refusal → List ℕ → Type 0
At r s = (size_of r ≡ unless_zero (record_size s)) × (number_of r ≡ record_fault s)

module _ (s : List ℕ) (p : ℕ) where
  long : length (drop p s) ≡ length s - p
  long = length-drop p s

  pub nothing_left : length s ≤ p → At (Ok None) (drop p s)
  unfolding record_size record_fault cut_record
  nothing_left h =
      let l = long in
      let none = eq-eqb (length (drop p s)) 0 (omega arith) in
      let cut = or_yes (ltb (length (drop p s)) 16) _ (lt-ltb (length (drop p s)) 16 (omega arith)) in
      (no_size _ (if_yes _ _ _ _ cut refl), if_yes _ _ _ _ none refl)

  module _ (here : p < length s) where
    some : eqb (length (drop p s)) 0 ≡ false
    some =
        let l = long in
        ne_eqb (length (drop p s)) 0 (λ q. omega arith)

    by_cut : cut_record (drop p s) ≡ true → At (Err RecordCut) (drop p s)
    unfolding record_size record_fault
    by_cut t = (no_size _ (if_yes _ _ _ _ t refl), if_no _ _ _ _ some (if_yes _ _ _ _ t refl))

    pub cut_head : length s - p < 16 → At (Err RecordCut) (drop p s)
    unfolding cut_record
    cut_head h = by_cut (or_yes _ _ (lt-ltb (length (drop p s)) 16 (rw long h)))

    module _ (n : ℕ) (head : 16 ≤ length s - p) (e : n ≡ word s (p + 8)) where
      captured : word (drop p s) 8 ≡ n
      captured = word_from s p 8 ∙ sym e

      pub cut_frame : length s - p - 16 < n → At (Err RecordCut) (drop p s)
      unfolding cut_record
      cut_frame h =
          let l = long in
          by_cut (or_last _ _ (le-ltb (length (drop p s)) 16 (omega arith)) (rw captured (lt-ltb (length (drop p s)) (16 + n) (omega arith))))

      module _ (h : n ≤ length s - p - 16) (m : ℕ) (d : m ≡ word s (p + 12)) where
        whole : cut_record (drop p s) ≡ false
        unfolding cut_record
        whole =
            let l = long in
            or_no _ _ (le-ltb (length (drop p s)) 16 (omega arith)) (rw captured (le-ltb (length (drop p s)) (16 + n) (omega arith)))

        pub unequal : (n ≡ m → ⊥) → At (Err RecordLengths) (drop p s)
        unfolding record_size record_fault unequal_lengths
        unequal g =
            let t : unequal_lengths (drop p s) ≡ true = rw (captured, word_from s p 12, ← d, ne_eqb n m g) in
            (no_size _ (if_no _ _ _ _ whole (if_yes _ _ _ _ t refl)), if_no _ _ _ _ some (if_no _ _ _ _ whole (if_yes _ _ _ _ t refl)))

        pub equal : n ≡ m → At (Ok (Some (16 + n))) (drop p s)
        unfolding record_size record_fault unequal_lengths
        equal g =
            let t : unequal_lengths (drop p s) ≡ false = rw (captured, word_from s p 12, ← d, eq-eqb n m g) in
            let k : 16 + n ≡ record_size (drop p s) = if_no _ _ _ _ whole (if_no _ _ _ _ t (rw captured)) in
            (size_is _ _ k (λ z. omega arith), if_no _ _ _ _ some (if_no _ _ _ _ whole (if_no _ _ _ _ t refl)))
