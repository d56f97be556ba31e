-- What a trace says, by the search for its first bad block. Assumes nothing.
use Prim.Native.Nat.{ℕ, zero, suc, ◌+◌, ◌≤◌, ◌<◌}
use mathlib.Core.Path.{◌≡◌, refl}
use mathlib.Core.Bool.{Bool}
use mathlib.Core.Logic.{◌⊎◌, inl, inr, ⊎_elim}
use mathlib.Core.List.{List}
use native.Mathlib.Omega.{arith}
use lib.Dec.{eqb, ltb}
use lib.ListN.{length}
use borrow.Author.Tests.{eqb-true, eqb-false, ltb-true, ltb-false}
use Rattle.block.specs.Fields.{block_number, used_length, unused_data, stored_check, check_of}
use Rattle.block.specs.Faults.{used_fault, all_zero, block_fault}
use Rattle.rules.proofs.Choices.{by_bool}
use Rattle.stream.specs.Blocks.{Fault, block_at, block_count, is_last, fault_at}
use Rattle.stream.specs.Stream.{stream, event_bytes}
use Rattle.trace.specs.Judge.{event_fault, reason, first_bad_from, first_bad}
use Rattle.trace.specs.Passes.{verdict}
use Rattle.trace.specs.Reading.{look, read}
use Rattle.trace_refusals.specs.Reading.{ReasonsExactly, Good, FirstBad, Exactly, ChangesNothing}

-- ---- why a block is bad

pub reasons_exactly : ReasonsExactly
unfolding reason fault_at block_fault
reasons_exactly t k =
    by_bool (eqb (length (block_at t k)) 512)
    (λ l.
    let long = eqb-true (length (block_at t k)) 512 l in
    by_bool (eqb (block_number (block_at t k)) k)
    (λ n.
    let number = eqb-true (block_number (block_at t k)) k n in
    by_bool (eqb (stored_check (block_at t k)) (check_of (block_at t k)))
    (λ c.
    let check = eqb-true (stored_check (block_at t k)) (check_of (block_at t k)) c in
    by_bool (used_fault (is_last t k) (used_length (block_at t k))) (λ u. inr (inr (inr (inl (long, number, check, u, rw (l, n, c, u))))))
    (λ u.
    by_bool (all_zero (unused_data (block_at t k)))
    (λ z.
    by_bool (event_fault (is_last t k) (stream t (k + 1))) (λ e. inr (inr (inr (inr (inr (inl (long, number, check, u, z, e, rw (l, n, c, u, z, e))))))))
    (λ e. inr (inr (inr (inr (inr (inr (long, number, check, u, z, e, rw (l, n, c, u, z, e)))))))))
    (λ z. inr (inr (inr (inr (inl (long, number, check, u, z, rw (l, n, c, u, z)))))))))
    (λ c. inr (inr (inl (long, number, eqb-false (stored_check (block_at t k)) (check_of (block_at t k)) c, rw (l, n, c))))))
    (λ n. inr (inl (long, eqb-false (block_number (block_at t k)) k n, rw (l, n)))))
    (λ l. inl (eqb-false (length (block_at t k)) 512 l, rw l))

-- ---- a reason is one of 17 to 22

block_reasons : (last : Bool) (k : ℕ) (b : List ℕ) → (block_fault last k b ≡ 0) ⊎ ((17 ≤ block_fault last k b) × (block_fault last k b ≤ 22))
unfolding block_fault
block_reasons last k b =
    by_bool (eqb (length b) 512)
    (λ t.
    by_bool (eqb (block_number b) k)
    (λ u.
    by_bool (eqb (stored_check b) (check_of b))
    (λ v.
    by_bool (used_fault last (used_length b)) (λ w. inr (rw (t, u, v, w) (omega arith, omega arith)))
    (λ w.
    by_bool (all_zero (unused_data b)) (λ x. inl (rw (t, u, v, w, x))) (λ x. inr (rw (t, u, v, w, x) (omega arith, omega arith)))))
    (λ v. inr (rw (t, u, v) (omega arith, omega arith))))
    (λ u. inr (rw (t, u) (omega arith, omega arith))))
    (λ t. inr (rw t (omega arith, omega arith)))

reasons : (t : List ℕ) (k : ℕ) → (reason t k ≡ 0 → ⊥) → (17 ≤ reason t k) × (reason t k ≤ 22)
unfolding reason fault_at
reasons t k h =
    by_bool (eqb (block_fault (is_last t k) k (block_at t k)) 0)
    (λ u.
    by_bool (event_fault (is_last t k) (stream t (k + 1))) (λ v. rw (u, v) (omega arith, omega arith)) (λ v. absurd (h (rw (u, v)))))
    (λ u.
    rw u
    (⊎_elim (λ (z : block_fault (is_last t k) k (block_at t k) ≡ 0). absurd (eqb-false (block_fault (is_last t k) k (block_at t k)) 0 u z)) (λ z. z)
    (block_reasons (is_last t k) k (block_at t k))))

-- ---- the search

module _ (t : List ℕ) where
  -- what was found from place k on, where those before it are not bad
  abbrev Finds : Fault → Type 0
  Finds f = (Good t × (f ≡ verdict 0 0)) ⊎ FirstBad t f.number f.block

  search_from : (n k : ℕ) → k + n ≡ block_count (length t) → ((j : ℕ) → j < k → reason t j ≡ 0) → Finds (first_bad_from t k n)
  unfolding first_bad_from
  search_from zero k e s = inl ((λ j l. s j (omega arith)), refl)
  search_from (suc n) k e s =
      by_bool (eqb (reason t k) 0)
      (λ u.
      rw u
      (search_from n (k + 1) (omega arith)
      (λ j l. by_bool (eqb j k) (λ v. rw (eqb-true j k v) (eqb-true (reason t k) 0 u)) (λ v. let d = eqb-false j k v in s j (omega arith)))))
      (λ u.
      let r = reasons t k (eqb-false (reason t k) 0 u) in
      rw u (inr (record { there = omega arith; before = s; bad = refl; least = r.0; most = r.1 })))

  searched : Finds (first_bad t)
  unfolding first_bad
  searched = search_from (block_count (length t)) 0 (omega arith) (λ j l. absurd (omega arith))

pub reading_exactly : Exactly
unfolding look
reading_exactly t room =
    ⊎_elim
    (λ (g : Good t × (first_bad t ≡ verdict 0 0)).
    by_bool (ltb room (length (event_bytes t)))
    (λ u. inr (inl (g.0, ltb-true room (length (event_bytes t)) u, rw (g.1, u))))
    (λ u. inl (g.0, ltb-false room (length (event_bytes t)) u, rw (g.1, u))))
    (λ (b : FirstBad t (first_bad t).number (first_bad t).block).
    by_bool (eqb (first_bad t).number 0)
    (λ u.
    let z = eqb-true (first_bad t).number 0 u in
    let l = b.least in
    absurd (omega arith))
    (λ u. inr (inr (rw u (b, refl)))))
    (searched t)

pub reading_changes_nothing : ChangesNothing
unfolding read
reading_changes_nothing t room h = by_bool (eqb (look t (length room)).number 0) (λ u. absurd (h (eqb-true (look t (length room)).number 0 u))) (λ u. rw u)
