-- What a trace without a bad block has passed: the faults of each block, the header, the events. Assumes nothing.
use Prim.Native.Nat.{ℕ, zero, suc, ◌+◌, ◌-◌, ◌≤◌, ◌<◌}
use mathlib.Core.Path.{◌≡◌, refl}
use mathlib.Core.Bool.{true, false, not, true≢false}
use mathlib.Core.List.{List}
use native.Mathlib.Omega.{arith}
use lib.Dec.{eqb, ltb}
use lib.ListN.{length}
use borrow.Author.Tests.{eq-eqb, eqb-true, eqb-false, ltb-false, le-ltb, not-false}
use Rattle.rules.proofs.Choices.{by_bool, or_parts, passed, neither}
use Rattle.window.specs.Window.{window_allowed}
use Rattle.event.specs.Walk.{walk}
use Rattle.event.specs.declared.Ending.{Ending}
use Rattle.event.specs.declared.Ending.TheVariants.{Whole, Cut, NoEvent}
use Rattle.stream.specs.Blocks.{block_count, is_last, fault_at, Sound}
use Rattle.stream.specs.Stream.{stream, base_of, window_of, events_of, event_bytes}
use Rattle.stream.proofs.Laws.{count_least}
use Rattle.trace.specs.Judge.{header_fault, ending_fault, event_fault, reason, first_bad_from, first_bad}
use Rattle.trace.specs.Reading.{given, look}

-- ---- reading without a refusal

-- no block is bad, all is given, and the events have room
pub look_given : (t : List ℕ) (room : ℕ) → (look t room).number ≡ 0
    → ((first_bad t).number ≡ 0) × ((look t room ≡ given t) × (length (event_bytes t) ≤ room))
unfolding look
look_given t room e =
    by_bool (eqb (first_bad t).number 0)
    (λ u.
    by_bool (ltb room (length (event_bytes t))) (λ v. absurd (omega (arith, rw (u, v) at e)))
    (λ v. (eqb-true (first_bad t).number 0 u, (rw (u, v), ltb-false room (length (event_bytes t)) v))))
    (λ u. absurd (eqb-false (first_bad t).number 0 u (rw u at e)))

-- the other way round
pub look_gives : (t : List ℕ) (room : ℕ) → (first_bad t).number ≡ 0 → length (event_bytes t) ≤ room → look t room ≡ given t
unfolding look
look_gives t room good fits = rw (eq-eqb (first_bad t).number 0 good, le-ltb room (length (event_bytes t)) fits)

-- ---- the search for a bad block

none_found : (t : List ℕ) (n k j : ℕ) → (first_bad_from t k n).number ≡ 0 → j < n → reason t (k + j) ≡ 0
unfolding first_bad_from
none_found t zero k j e l = absurd (omega arith)
none_found t (suc n) k zero e l =
    let z : k + 0 ≡ k = omega arith in
    rw z (by_bool (eqb (reason t k) 0) (λ u. eqb-true (reason t k) 0 u) (λ u. rw u at e))
none_found t (suc n) k (suc j) e l =
    let z : k + suc j ≡ k + 1 + j = omega arith in
    rw z
    (by_bool (eqb (reason t k) 0) (λ u. none_found t n (k + 1) j (rw u at e) (omega arith))
    (λ u. absurd (eqb-false (reason t k) 0 u (rw u at e))))

no_reason : (t : List ℕ) (k : ℕ) → reason t k ≡ 0 → (fault_at t k ≡ 0) × (event_fault (is_last t k) (stream t (k + 1)) ≡ false)
unfolding reason
no_reason t k e =
    let p = neither (fault_at t k) _ e in
    (p.0, (passed (event_fault (is_last t k) (stream t (k + 1))) 22 0 (omega arith) p.1).0)

whole_end : (e : Ending) → ending_fault true e ≡ false → e ≡ Whole
whole_end Whole h = refl
whole_end Cut h = absurd (true≢false h)
whole_end NoEvent h = absurd (true≢false h)

module _ (t : List ℕ) (good : (first_bad t).number ≡ 0) where
  abbrev n : ℕ
  n = block_count (length t)

  abbrev s : List ℕ
  s = stream t n

  no_reasons : (k : ℕ) → k < n → reason t k ≡ 0
  unfolding first_bad
  no_reasons k l = let z : 0 + k ≡ k = omega arith in rw z at (none_found t n 0 k good l)

  pub sound : Sound t n
  sound k l = (no_reason t k (no_reasons k l)).0

  -- of the last block, the events are those of all
  no_event_fault : event_fault true s ≡ false
  unfolding is_last
  no_event_fault =
      let c = count_least (length t) in
      let z : n - 1 + 1 ≡ n = omega arith in
      let f = (no_reason t (n - 1) (no_reasons (n - 1) (omega arith))).1 in
      rw (z, eq-eqb n n refl) at f

  pub header_right : (6 ≤ length s) × (window_allowed (base_of s) (window_of s) ≡ true)
  unfolding event_fault header_fault
  header_right =
      let p = or_parts (header_fault s) (ending_fault true (walk (events_of s)).ending) no_event_fault in
      let q = or_parts (ltb (length s) 6) (not (window_allowed (base_of s) (window_of s))) p.0 in
      (ltb-false (length s) 6 q.0, not-false (window_allowed (base_of s) (window_of s)) q.1)

  pub events_whole : (walk (events_of s)).ending ≡ Whole
  unfolding event_fault
  events_whole =
      let p = or_parts (header_fault s) (ending_fault true (walk (events_of s)).ending) no_event_fault in
      whole_end (walk (events_of s)).ending p.1
