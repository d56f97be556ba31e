-- What stands at a place of a list, by the ways out of the code: each test that it makes there is of the bytes at that place.
-- Assumes nothing.
use Prim.Native.Nat.{ℕ, ◌+◌, ◌-◌, ◌≤◌, ◌<◌}
use mathlib.Core.Path.{◌≡◌, refl, sym, ◌∙◌}
use mathlib.Core.Bool.{Bool, true, false}
use mathlib.Core.List.{List}
use native.Mathlib.Omega.{arith}
use lib.ListN.{length, get_or, take, drop, length-take, length-drop}
use Rattle.std.specs.Prelude.{if◌then◌else◌}
use Rattle.memory.specs.Memory.{word}
use Rattle.event.specs.Front.{cut, no_event, front, found}
use Rattle.event.specs.Sizes.{size_of, begins, size_by, none_by}
use Rattle.event.specs.declared.Found.{Found}
use Rattle.event.specs.declared.Found.TheVariants.{RegisterWrite, Grant, Frame, Send, Cut, NoEvent}
use Rattle.event.proofs.Fronts.{front_of_none, front_part, part_of, whole_write, whole_grant, whole_frame, whole_send}
use Rattle.memory.proofs.Parts.{word_from}
use Rattle.event.proofs.Laws.{byte_from, size_from}

module _ (s : List ℕ) (p : ℕ) where
  pub at_end : length s ≤ p → Cut ≡ found p (front (drop p s))
  at_end h =
      let e : length (drop p s) ≡ 0 = length-drop p s ∙ omega arith in
      rw (front_of_none (drop p s) e)

  module _ (first four n : ℕ) (l : p < length s) (a : first ≡ get_or s p 0) (b : four ≡ word s (p + 1)) (c : n ≡ size_by first four (length s - p)) where
    size_here : n ≡ size_of (front (drop p s))
    size_here = size_from s p first four (length s - p) n a b refl c

    some_here : 0 < length (drop p s)
    some_here = rw (length-drop p s) (omega arith)

    first_here : first ≡ get_or (drop p s) 0 0
    first_here = a ∙ sym (byte_from s p)

    four_here : four ≡ word (drop p s) 1
    four_here = b ∙ sym (word_from s p 1)

    pub at_part : n ≡ 0 → (r : Found) → r ≡ none_by first → r ≡ found p (front (drop p s))
    unfolding none_by part_of
    at_part z r e =
        e ∙ rw (front_part (drop p s) some_here (sym size_here ∙ z), ← first_here) (by_part (begins first))
      where
        by_part : (t : Bool) → (if t then Cut else NoEvent) ≡ found p (if t then cut else no_event)
        by_part true = refl
        by_part false = refl

    module _ (h : n ≡ 0 → ⊥) where
      whole_here : size_of (front (drop p s)) ≡ 0 → ⊥
      whole_here q = h (size_here ∙ q)

      pub at_write : first ≡ 1 → (v : ℕ) → v ≡ word s (p + 5) → RegisterWrite four v ≡ found p (front (drop p s))
      at_write e v d =
          rw (whole_write (drop p s) some_here whole_here (sym first_here ∙ e), four_here, d ∙ sym (word_from s p 5))

      pub at_grant : first ≡ 2 → Grant four ≡ found p (front (drop p s))
      at_grant e = rw (whole_grant (drop p s) some_here whole_here (sym first_here ∙ e), four_here)

      pub at_frame : first ≡ 3 → Frame (p + 5) four ≡ found p (front (drop p s))
      at_frame e =
          let f = whole_frame (drop p s) some_here whole_here (sym first_here ∙ e) in
          let fits = f.1 in
          let k : length (take (word (drop p s) 1) (drop 5 (drop p s))) ≡ word (drop p s) 1 = simp (length-take, length-drop 5 (drop p s)) (omega arith) in
          rw (f.0, k, four_here)

      pub at_send : (first ≡ 1 → ⊥) → (first ≡ 2 → ⊥) → (first ≡ 3 → ⊥) → Send ≡ found p (front (drop p s))
      at_send x y z =
          rw (whole_send (drop p s) some_here whole_here (λ q. x (first_here ∙ q)) (λ q. y (first_here ∙ q)) (λ q. z (first_here ∙ q)))

pub ruleset at_ways = (at_end, at_part, at_write, at_grant, at_frame, at_send)
