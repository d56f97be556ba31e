-- The first bad block, found in two passes: first the faults of the blocks by themselves, then one walk along the events of those
-- before the first such fault. Assumes nothing.
use Prim.Native.Nat.{ℕ, zero, suc, ◌+◌, ◌*◌, ◌/◌, ◌-◌, ◌≤◌, ◌<◌}
use mathlib.Core.Path.{◌≡◌, refl, sym, ◌∙◌}
use mathlib.Core.Bool.{Bool, true, false, ◌&&◌, ◌||◌, false≢true}
use mathlib.Core.List.{List}
use native.Mathlib.Omega.{arith}
use native.Mathlib.Numerals.{add-one}
use lib.Dec.{eqb, ltb}
use lib.ListN.{length, take, drop, length-take, length-drop}
use lib.Seq.{get_or-take}
use borrow.Author.Tests.{eqb-true, eqb-false, eq-eqb, ne_eqb, ltb-true, ltb-false, lt-ltb, le-ltb}
use Rattle.std.specs.Prelude.{if◌then◌else◌}
use Rattle.memory.specs.Memory.{word}
use Rattle.memory.proofs.Parts.{drop_take}
use Rattle.block.specs.Fields.{half}
use Rattle.event.specs.Walk.{walk, counted}
use Rattle.event.specs.declared.Ending.{Ending}
use Rattle.event.specs.declared.Ending.TheVariants.{Whole, Cut, NoEvent}
use Rattle.rules.proofs.Choices.{by_bool}
use Rattle.prefixes.proofs.Prefixes.{stray, cut_short}
use Rattle.stream.specs.Blocks.{block_count, is_last, fault_at, Sound}
use Rattle.stream.specs.Stream.{stream, base_of, window_of, events_of}
use Rattle.stream.proofs.Sound.{not_last, length_within, front_of}
use Rattle.trace.specs.Passes.{verdict}
use Rattle.trace.specs.Judge.{header_fault, ending_fault, event_fault, reason, first_bad_from, first_bad}

-- ---- what the search for a bad block finds

module _ (t : List ℕ) where
  first_bad_from_lem : (n k b : ℕ) → ((j : ℕ) → j < b → reason t (k + j) ≡ 0) → b < n → (reason t (k + b) ≡ 0 → ⊥)
      → first_bad_from t k n ≡ verdict (reason t (k + b)) (k + b)
  unfolding first_bad_from
  first_bad_from_lem zero k b good l bad = absurd (omega arith)
  first_bad_from_lem (suc n) k zero good l bad =
      let e : k + 0 ≡ k = omega arith in
      let z : reason t k ≡ 0 → ⊥ = rw e at bad in
      rw (ne_eqb (reason t k) 0 z, e)
  first_bad_from_lem (suc n) k (suc b) good l bad =
      let e : k + 0 ≡ k = omega arith in
      let z : reason t k ≡ 0 = rw e at (good 0 (omega arith)) in
      let f : k + suc b ≡ k + 1 + b = omega arith in
      rw (eq-eqb (reason t k) 0 z, f)
      (first_bad_from_lem n (k + 1) b
      (λ j m. let g : k + 1 + j ≡ k + suc j = omega arith in rw g (good (suc j) (omega arith))) (omega arith) (rw f at bad))

  none_bad_from : (n k : ℕ) → ((j : ℕ) → j < n → reason t (k + j) ≡ 0) → first_bad_from t k n ≡ verdict 0 0
  unfolding first_bad_from
  none_bad_from zero k good = refl
  none_bad_from (suc n) k good =
      let e : k + 0 ≡ k = omega arith in
      let z : reason t k ≡ 0 = rw e at (good 0 (omega arith)) in
      rw (eq-eqb (reason t k) 0 z)
      (none_bad_from n (k + 1) (λ j m. let g : k + 1 + j ≡ k + suc j = omega arith in rw g (good (suc j) (omega arith))))

  abbrev count : ℕ
  count = block_count (length t)

  first_bad_lem : (b : ℕ) → ((j : ℕ) → j < b → reason t j ≡ 0) → b < count → (reason t b ≡ 0 → ⊥) → first_bad t ≡ verdict (reason t b) b
  unfolding first_bad
  first_bad_lem b good l bad =
      let z : (j : ℕ) → 0 + j ≡ j = λ j. omega arith in
      let e = z b in
      rw (← e) (first_bad_from_lem count 0 b (λ j m. rw (z j) (good j m)) l (rw e bad))

  none_bad : ((j : ℕ) → j < count → reason t j ≡ 0) → first_bad t ≡ verdict 0 0
  unfolding first_bad
  none_bad good = none_bad_from count 0 (λ j m. let z : 0 + j ≡ j = omega arith in rw z (good j m))

-- bad by the fault of block 0 by itself
pub bad_first : (t : List ℕ) (n : ℕ) → 0 < block_count (length t) → n ≡ fault_at t 0 → (n ≡ 0 → ⊥) → first_bad t ≡ verdict n 0
unfolding reason
bad_first t n l e h =
    let r : reason t 0 ≡ n = rw (ne_eqb (fault_at t 0) 0 (λ q. h (e ∙ q))) (sym e) in
    first_bad_lem t 0 (λ j m. absurd (omega arith)) l (λ q. h (sym r ∙ q)) ∙ rw r

-- ---- the events of the blocks up to one, as the front of the events of more

half_kept : (m : ℕ) (s : List ℕ) → 6 ≤ m → half (take m s) 4 ≡ half s 4
half_kept m s h = rw (get_or-take m s 4 0 (omega arith), get_or-take m s 5 0 (omega arith))

word_kept : (m : ℕ) (s : List ℕ) → 6 ≤ m → word (take m s) 0 ≡ word s 0
unfolding word
word_kept m s h =
    rw (get_or-take m s 0 0 (omega arith), get_or-take m s 1 0 (omega arith), get_or-take m s 2 0 (omega arith), get_or-take m s 3 0 (omega arith))

short_kept : (m : ℕ) (s : List ℕ) → 6 ≤ m → ltb (length (take m s)) 6 ≡ ltb (length s) 6
short_kept m s h =
    let l = length-take m s in
    by_bool (ltb (length s) 6) (λ t. let a = ltb-true (length s) 6 t in rw t (lt-ltb (length (take m s)) 6 (omega arith)))
    (λ t. let a = ltb-false (length s) 6 t in rw t (le-ltb (length (take m s)) 6 (omega arith)))

header_kept : (m : ℕ) (s : List ℕ) → 6 ≤ m → header_fault (take m s) ≡ header_fault s
unfolding header_fault base_of window_of
header_kept m s h = rw (short_kept m s h, half_kept m s h, word_kept m s h)

stray_kept : (m : ℕ) (s : List ℕ)
    → stray (walk (events_of (take m s))).ending ≡ (stray (walk (events_of s)).ending && ltb (counted (walk (events_of s))).place (m - 6))
stray_kept m s = rw (drop_take 6 m s) (cut_short (drop 6 s) (m - 6))

-- a byte that no event can have is a fault in any block; in one that is not the last nothing else is
stray_faults : (last : Bool) (e : Ending) → stray e ≡ true → ending_fault last e ≡ true
stray_faults last Whole h = absurd (false≢true h)
stray_faults last Cut h = absurd (false≢true h)
stray_faults last NoEvent h = refl

not_last_faults : (last : Bool) (e : Ending) → last ≡ false → ending_fault last e ≡ stray e
not_last_faults last Whole h = refl
not_last_faults last Cut h = h
not_last_faults last NoEvent h = refl

-- ---- the first g blocks have no fault of their own

module _ (t : List ℕ) (g : ℕ) (sound : Sound t g) (within : g ≤ block_count (length t)) where
  abbrev all : List ℕ
  all = stream t g

  reason_is : (j : ℕ) → j < g → reason t j ≡ (if event_fault (is_last t j) (stream t (j + 1)) then 22 else 0)
  unfolding reason
  reason_is j l = rw (eq-eqb (fault_at t j) 0 (sound j l))

  part_is : (j : ℕ) → j < g → stream t (j + 1) ≡ take (504 * (j + 1)) all
  part_is j l = rw (add-one j) (front_of t g j sound within l)

  -- an event fault, by the events of all
  fault_is : (j : ℕ) → j < g → event_fault (is_last t j) (stream t (j + 1))
      ≡ (header_fault all || ending_fault (is_last t j) (walk (events_of (take (504 * (j + 1)) all))).ending)
  unfolding event_fault
  fault_is j l = rw (part_is j l, header_kept (504 * (j + 1)) all (omega arith))

  -- bad by its header: block 0
  pub bad_header : 0 < g → header_fault all ≡ true → first_bad t ≡ verdict 22 0
  bad_header p h =
      let r : reason t 0 ≡ 22 = reason_is 0 p ∙ rw (fault_is 0 p, h) in
      first_bad_lem t 0 (λ j l. absurd (omega arith)) (omega arith) (λ q. absurd (omega arith)) ∙ rw r

  module _ (header : header_fault all ≡ false) where
    abbrev ending : Ending
    ending = (walk (events_of all)).ending

    abbrev place : ℕ
    place = (counted (walk (events_of all))).place

    -- no fault in a block before the last, where no stray byte lies up to its end
    clean : (j : ℕ) → j < g → j + 1 < block_count (length t) → (stray ending && ltb place (504 * (j + 1) - 6)) ≡ false → reason t j ≡ 0
    clean j l m n =
        let e : event_fault (is_last t j) (stream t (j + 1)) ≡ false =
        rw (fault_is j l, header)
        (not_last_faults (is_last t j) (walk (events_of (take (504 * (j + 1)) all))).ending (not_last t j m) ∙ stray_kept (504 * (j + 1)) all ∙ n) in
        reason_is j l ∙ rw e

    -- bad by a byte that no event can have: the block of that byte
    bad_in : (b : ℕ) → b < g → 504 * b ≤ 6 + place → 6 + place < 504 * (b + 1) → stray ending ≡ true → first_bad t ≡ verdict 22 b
    bad_in b less from to h =
        let bad : event_fault (is_last t b) (stream t (b + 1)) ≡ true =
        rw (fault_is b less, header)
        (stray_faults (is_last t b) (walk (events_of (take (504 * (b + 1)) all))).ending
        (stray_kept (504 * (b + 1)) all ∙ rw (h, lt-ltb place (504 * (b + 1) - 6) (omega arith)))) in
        let r : reason t b ≡ 22 = reason_is b less ∙ rw bad in
        let good : (j : ℕ) → j < b → reason t j ≡ 0 =
        λ j l. clean j (omega arith) (omega arith) (rw (h, le-ltb place (504 * (j + 1) - 6) (omega arith))) in
        first_bad_lem t b good (omega arith) (λ q. absurd (omega arith)) ∙ rw r

    pub bad_byte : stray ending ≡ true → place < length (events_of all) → first_bad t ≡ verdict 22 ((6 + place) / 504)
    bad_byte h inside =
        let n = length-drop 6 all in
        let w = length_within t g sound within in
        bad_in ((6 + place) / 504) (omega arith) (omega arith) (omega arith) h

    module _ (none : stray ending ≡ false) where
      -- no stray byte: every block before the last is clean
      before_last : (j : ℕ) → j < g → j + 1 < block_count (length t) → reason t j ≡ 0
      before_last j l m = clean j l m (rw none)

      -- bad by the fault of the block behind them
      pub bad_block : g < block_count (length t) → (n : ℕ) → n ≡ fault_at t g → (n ≡ 0 → ⊥) → first_bad t ≡ verdict n g
      unfolding reason
      bad_block l n e h =
          let r : reason t g ≡ n = rw (ne_eqb (fault_at t g) 0 (λ q. h (e ∙ q))) (sym e) in
          first_bad_lem t g (λ j m. before_last j m (omega arith)) l (λ q. h (sym r ∙ q)) ∙ rw r

      module _ (b : ℕ) (is : g ≡ b + 1) (whole : g ≡ block_count (length t)) where
        at_last : event_fault (is_last t b) (stream t (b + 1)) ≡ ending_fault true ending
        unfolding event_fault is_last
        at_last =
            let l : is_last t b ≡ true = eq-eqb (b + 1) (block_count (length t)) (sym is ∙ whole) in
            rw (l, ← is, header)

        -- bad by an event that is cut: the last block
        pub bad_end : ending ≡ Cut → first_bad t ≡ verdict 22 b
        bad_end e =
            let r : reason t b ≡ 22 = reason_is b (omega arith) ∙ rw (at_last, e) in
            first_bad_lem t b (λ j m. before_last j (omega arith) (omega arith)) (omega arith) (λ q. absurd (omega arith)) ∙ rw r

        -- none is bad
        pub all_good : ending ≡ Whole → first_bad t ≡ verdict 0 0
        all_good e = none_bad t (λ j m. by_bool (eqb j b) (λ u. last (eqb-true j b u)) (λ u. let d = eqb-false j b u in before_last j (omega arith) (omega arith)))
          where
            last : {j : ℕ} → j ≡ b → reason t j ≡ 0
            last q = rw q (reason_is b (omega arith) ∙ rw (at_last, e))
