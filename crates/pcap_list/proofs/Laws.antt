-- The entry at a place of a list, the walk along the list turn by turn, and an entry as the code puts it. Assumes nothing.
use Prim.Native.Nat.{ℕ, suc, ◌+◌, ◌-◌, ◌≤◌, ◌<◌}
use mathlib.Core.Path.{◌≡◌, refl, sym, ap, ◌∙◌}
use mathlib.Core.Bool.{false}
use mathlib.Core.List.{List, [], ◌∷◌, ◌++◌, map}
use native.Mathlib.Omega.{arith}
use native.Mathlib.Nat.{add-zero}
use lib.Dec.{ltb}
use lib.ListN.{length, take, drop, length-drop}
use borrow.Author.Tests.{lt-ltb, le-ltb, ltb-false, eq-eqb, ne_eqb}
use Rattle.rules.proofs.Choices.{by_test, if_yes, if_no}
use Rattle.memory.specs.Memory.{word, word_bytes}
use Rattle.memory.proofs.Parts.{word_from}
use Rattle.appending.specs.Put.{Put, put_of, put}
use Rattle.std.proofs.Common.{Option, None, Some, Ok, Err}
use Rattle.pieces.specs.Pieces.{pieces, sizes, unless_zero}
use Rattle.pieces.proofs.Joined.{all_bytes}
use Rattle.pieces.proofs.Options.{no_size, size_is, few}
use Rattle.pieces.proofs.Turns.{Fits}
use Rattle.pcap.specs.Capture.{head_bytes}
use Rattle.pcap_list.specs.Entries.{entry_head, entry_bytes, entry_size, entry_of, entries_of, of_its_form, listed}

-- ---- the size of an entry

pub fits : Fits entry_size
unfolding entry_size
fits s =
    by_test (λ n. n ≤ length s) (ltb (length s) 12) _ _ (λ t. omega arith)
    (λ t. by_test (λ n. n ≤ length s) (ltb (length s) (12 + word s 8)) _ _ (λ u. omega arith) (λ u. ltb-false (length s) (12 + word s 8) u))

-- a whole entry has its head
pub least : (s : List ℕ) → (entry_size s ≡ 0 → ⊥) → 12 ≤ entry_size s
unfolding entry_size
least s =
    by_test (λ n. (n ≡ 0 → ⊥) → 12 ≤ n) (ltb (length s) 12) _ _ (λ t h. absurd (h refl))
    (λ t. by_test (λ n. (n ≡ 0 → ⊥) → 12 ≤ n) (ltb (length s) (12 + word s 8)) _ _ (λ u h. absurd (h refl)) (λ u h. omega arith))

module _ (s : List ℕ) (p : ℕ) where
  short : length s - p < 12 → 0 ≡ entry_size (drop p s)
  unfolding entry_size
  short h = rw (lt-ltb (length (drop p s)) 12 (rw (length-drop p s) h))

  pub none_left : (r : Option ℕ) → r ≡ None → (p ≤ length s → ⊥) → r ≡ unless_zero (entry_size (drop p s))
  none_left r z h = z ∙ no_size _ (short (omega arith))

  module _ (k : ℕ) (here : (p ≤ length s) × (k ≡ length s - p)) where
    pub no_head : (r : Option ℕ) → r ≡ None → (12 ≤ k → ⊥) → r ≡ unless_zero (entry_size (drop p s))
    no_head r z h = let e = here.1 in z ∙ no_size _ (short (omega arith))

    module _ (l n : ℕ) (head : (12 ≤ k) × (l ≡ k - 12)) (e : n ≡ word s (p + 8)) where
      long : ltb (length (drop p s)) 12 ≡ false
      long =
          let d = length-drop p s in
          let a = here.1 in
          let b = head.0 in
          le-ltb (length (drop p s)) 12 (omega arith)

      said : word (drop p s) 8 ≡ n
      said = word_from s p 8 ∙ sym e

      pub no_frame : l < n → None ≡ unless_zero (entry_size (drop p s))
      unfolding entry_size
      no_frame h =
          let d = length-drop p s in
          let a = here.1 in
          let b = head.1 in
          no_size _ (rw (long, said, lt-ltb (length (drop p s)) (12 + n) (omega arith)))

      pub whole_entry : n ≤ l → Some (12 + n) ≡ unless_zero (entry_size (drop p s))
      unfolding entry_size
      whole_entry h =
          let d = length-drop p s in
          let a = here.1 in
          let b = head.1 in
          let w : 12 + n ≡ entry_size (drop p s) = rw (long, said, le-ltb (length (drop p s)) (12 + n) (omega arith)) in
          size_is _ _ w (λ z. omega arith)

-- ---- the walk: so many bytes and entries before what is left

pub record Walking (s : List ℕ) (place frames : ℕ) (left : List ℕ) : Type 0 where
  pub bytes : place + sizes (pieces entry_size left) ≡ sizes (pieces entry_size s)
  pub count : frames + length (pieces entry_size left) ≡ length (pieces entry_size s)

module _ (s : List ℕ) (place frames : ℕ) (left : List ℕ) (w : Walking s place frames left) where
  pub walking_room : (x : List ℕ) (xs : List (List ℕ)) → pieces entry_size left ≡ x ∷ xs → (place + length x ≤ length s) × (frames < length s)
  walking_room x xs e =
      let b : place + (length x + sizes xs) ≡ sizes (pieces entry_size s) = rw e at w.bytes in
      let c : frames + suc (length xs) ≡ length (pieces entry_size s) = rw e at w.count in
      let a = all_bytes entry_size fits s in
      let f = few entry_size s in
      (omega arith, omega arith)

  module _ (none : pieces entry_size left ≡ []) where
    all_walked : place ≡ sizes (pieces entry_size s)
    all_walked = let b : place + 0 ≡ sizes (pieces entry_size s) = rw none at w.bytes in omega arith

    all_counted : frames ≡ length (entries_of s)
    unfolding entries_of
    all_counted =
        let c : frames + 0 ≡ length (pieces entry_size s) = rw none at w.count in
        sym (add-zero frames) ∙ c ∙ sym (length-map (pieces entry_size s))
      where
        length-map : (xs : List (List ℕ)) → length (map entry_of xs) ≡ length xs
        length-map [] = refl
        length-map (x ∷ xs) = ap suc (length-map xs)

    pub walking_whole : place ≡ length s → Ok frames ≡ listed s
    unfolding of_its_form
    walking_whole e = if_yes _ _ _ _ (eq-eqb (sizes (pieces entry_size s)) (length s) (sym all_walked ∙ e)) (ap Ok all_counted)

    pub walking_other : (place ≡ length s → ⊥) → Err frames ≡ listed s
    unfolding of_its_form
    walking_other h = if_no _ _ _ _ (ne_eqb (sizes (pieces entry_size s)) (length s) (λ e. h (all_walked ∙ e))) (ap Err all_counted)

-- ---- an entry put: its head is the front of a record's

module _ (l l' h : List ℕ) (at end seconds microseconds : ℕ) (frame : List ℕ) (eh : h ≡ head_bytes seconds microseconds (length frame) (length frame))
    (e : put_of end l' ≡ put l at (take 12 h ++ frame)) where
  entry_put : put_of end l' ≡ put l at (entry_bytes (record { seconds = seconds; microseconds = microseconds; frame = frame }))
  unfolding entry_bytes entry_head head_bytes word_bytes
  entry_put = e ∙ rw eh

  pub put_list : l' ≡ (put l at (entry_bytes (record { seconds = seconds; microseconds = microseconds; frame = frame }))).list
  put_list = ap (λ (p : Put). p.list) entry_put

  put_end : end ≡ (put l at (entry_bytes (record { seconds = seconds; microseconds = microseconds; frame = frame }))).end
  put_end = ap (λ (p : Put). p.end) entry_put

  pub put_none : end ≡ 0 → None ≡ unless_zero (put l at (entry_bytes (record { seconds = seconds; microseconds = microseconds; frame = frame }))).end
  put_none z = no_size _ (sym z ∙ put_end)

  pub put_some : (end ≡ 0 → ⊥) → Some end ≡ unless_zero (put l at (entry_bytes (record { seconds = seconds; microseconds = microseconds; frame = frame }))).end
  put_some h = size_is _ _ put_end (λ z. h (put_end ∙ z))
