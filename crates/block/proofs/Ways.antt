-- One law for each way out of `used_fault` and of `fault`: the tests that led to it, as the code has them in hand. Assumes nothing.
use Prim.Native.Nat.{ℕ, ◌+◌, ◌-◌, ◌≤◌, ◌<◌}
use mathlib.Core.Bool.{Bool, true, false, not, ◌&&◌, ◌||◌}
use mathlib.Core.Path.{◌≡◌, sym, ap, ◌∙◌}
use mathlib.Core.List.{List}
use native.Mathlib.Omega.{arith}
use borrow.Author.Tests.{eq-eqb, ne_eqb, lt-ltb, le-ltb, ltb-false, eqb-false}
use lib.Dec.{eqb, ltb}
use lib.ListN.{length, take, drop}
use Rattle.std.specs.Prelude.{if◌then◌else◌}
use Rattle.rules.proofs.Choices.{said_yes, said_no, or_parts}
use Rattle.memory.specs.Memory.{word}
use Rattle.block.specs.Fields.{block_number, used_length, unused_data, stored_check, check_of}
use Rattle.block.specs.Faults.{used_fault, all_zero, block_fault}
use Rattle.block.proofs.Parts.{unused_part}

module _ (last : Bool) (u : ℕ) where
  pub used_none : u ≡ 0 → true ≡ used_fault last u
  unfolding used_fault
  used_none e = rw (eq-eqb u 0 e)

  module _ (some : u ≡ 0 → ⊥) where
    pub used_over : 504 < u → true ≡ used_fault last u
    unfolding used_fault
    used_over h = rw (ne_eqb u 0 some, lt-ltb 504 u h)

    module _ (room : u ≤ 504) where
      pub used_last : last ≡ true → false ≡ used_fault last u
      unfolding used_fault
      used_last e = rw (ne_eqb u 0 some, le-ltb 504 u room, e)

      pub used_other : last ≡ false → ltb u 504 ≡ used_fault last u
      unfolding used_fault
      used_other e = rw (ne_eqb u 0 some, le-ltb 504 u room, e)

pub ruleset used_ways = (used_none, used_over, used_last, used_other)

-- a used length that is no fault
pub used_in : (last : Bool) (u : ℕ) (r : Bool) → r ≡ used_fault last u → r ≡ false → (1 ≤ u) × (u ≤ 504)
unfolding used_fault
used_in last u r e h =
    let p = or_parts (eqb u 0 || ltb 504 u) (not last && ltb u 504) (sym e ∙ h) in
    let q = or_parts (eqb u 0) (ltb 504 u) p.0 in
    let some = eqb-false u 0 q.0 in
    let room = ltb-false 504 u q.1 in
    (omega arith, omega arith)

module _ (last : Bool) (k : ℕ) (b : List ℕ) where
  pub bad_length : (length b ≡ 512 → ⊥) → 17 ≡ block_fault last k b
  unfolding block_fault
  bad_length l = rw (ne_eqb (length b) 512 l)

  pub bad_number : (n : ℕ) → length b ≡ 512 → n ≡ block_number b → (n ≡ k → ⊥) → 18 ≡ block_fault last k b
  unfolding block_fault
  bad_number n l en n≢k = rw (eq-eqb (length b) 512 l, ne_eqb (block_number b) k (λ q. n≢k (en ∙ q)))

  module _ (n s c : ℕ) (l : length b ≡ 512) (en : n ≡ block_number b) (hn : n ≡ k) (es : s ≡ word b 508) (ec : c ≡ check_of b) where
    pub bad_check : (s ≡ c → ⊥) → 19 ≡ block_fault last k b
    unfolding block_fault stored_check
    bad_check h = rw (eq-eqb (length b) 512 l, eq-eqb (block_number b) k (sym en ∙ hn), ne_eqb (word b 508) (check_of b) (λ q. h (es ∙ q ∙ sym ec)))

    module _ (u : ℕ) (r : Bool) (hc : s ≡ c) (eu : u ≡ used_length b) (er : r ≡ used_fault last u) where
      check_passed : block_fault last k b ≡ (if r then 20 else if not (all_zero (unused_data b)) then 21 else 0)
      unfolding block_fault stored_check
      check_passed =
          rw (
            eq-eqb (length b) 512 l,
            eq-eqb (block_number b) k (sym en ∙ hn),
            eq-eqb (word b 508) (check_of b) (sym es ∙ hc ∙ ec),
            ← eu,
            ← er,
          )

      pub bad_used : r ≡ true → 20 ≡ block_fault last k b
      bad_used h = rw (check_passed, h)

      module _ (z : Bool) (p : List ℕ) (hr : r ≡ false) (ep : p ≡ take (504 - u) (drop (4 + u) b)) (ez : z ≡ all_zero p) where
        fill_is : z ≡ all_zero (unused_data b)
        fill_is = ez ∙ ap all_zero (ep ∙ unused_part b u eu)

        pub bad_fill : not z ≡ true → 21 ≡ block_fault last k b
        bad_fill h = rw (check_passed, hr, said_no (all_zero (unused_data b)) z fill_is h)

        pub no_fault : not z ≡ false → 0 ≡ block_fault last k b
        no_fault h = rw (check_passed, hr, said_yes (all_zero (unused_data b)) z fill_is h)

pub ruleset ways = (bad_length, bad_number, bad_check, bad_used, bad_fill, no_fault)
