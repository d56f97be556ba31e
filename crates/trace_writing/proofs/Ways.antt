-- The ways out of writing: what a number of 0 says, and what is left of the room. Assumes nothing.
use Prim.Native.Nat.{ℕ, ◌+◌, ◌*◌, ◌≤◌, ◌<◌}
use mathlib.Core.Path.{◌≡◌, sym, ap, ◌∙◌}
use mathlib.Core.Bool.{Bool, true, false, not, false≢true}
use mathlib.Core.List.{List}
use native.Mathlib.Omega.{arith}
use lib.Dec.{ltb, leb}
use lib.ListN.{length}
use borrow.Author.Tests.{ne_eqb, lt-ltb, le-ltb, ltb-false, leb-true, not-false}
use Rattle.std.specs.Prelude.{if◌then◌else◌}
use Rattle.rules.proofs.Choices.{by_bool, said_yes, said_no, passed}
use Rattle.memory.specs.Memory.{store}
use Rattle.window.specs.Window.{window_allowed}
use Rattle.event.specs.Walk.{walk, counted}
use Rattle.event.specs.declared.Walked.{Walked}
use Rattle.trace_writing.specs.Made.{stream_of, blocks_for, blocks_of, trace_of}
use Rattle.trace_writing.specs.Writing.{is_whole, needed, write_number, writing_of, write}
use Rattle.trace_writing.proofs.Putting.{length_stream}

-- ---- the number: a law for each way out, in the order of the tests

module _ (base window : ℕ) (s : List ℕ) (room : ℕ) (w : Walked) (b : Bool) (ew : w ≡ counted (walk s)) (eb : b ≡ is_whole w.ending) where
  list_is : b ≡ is_whole (walk s).ending
  list_is = eb ∙ ap (λ (x : Walked). is_whole x.ending) ew

  pub bad_list : not b ≡ true → 25 ≡ write_number base window s room
  unfolding write_number
  bad_list h = rw (said_no (is_whole (walk s).ending) b list_is h)

  module _ (hb : not b ≡ false) (a : Bool) (ea : a ≡ window_allowed base window) where
    pub bad_window : not a ≡ true → 26 ≡ write_number base window s room
    unfolding write_number
    bad_window h = rw (said_yes (is_whole (walk s).ending) b list_is hb, said_no (window_allowed base window) a ea h)

    module _ (ha : not a ≡ false) (n : ℕ) (en : n ≡ blocks_for (6 + length s)) where
      -- what is left of the tests
      left : write_number base window s room ≡ (if ltb 65536 n then 27 else if ltb room (512 * n) then 28 else 0)
      unfolding write_number
      left = rw (said_yes (is_whole (walk s).ending) b list_is hb, said_yes (window_allowed base window) a ea ha, en)

      pub many_blocks : 65536 < n → 27 ≡ write_number base window s room
      many_blocks h = rw (left, lt-ltb 65536 n h)

      pub little_room : n ≤ 65536 → room < 512 * n → 28 ≡ write_number base window s room
      little_room f h = rw (left, le-ltb 65536 n f, lt-ltb room (512 * n) h)

      pub no_refusal : n ≤ 65536 → 512 * n ≤ room → 0 ≡ write_number base window s room
      no_refusal f h = rw (left, le-ltb 65536 n f, le-ltb room (512 * n) h)

pub ruleset numbers = (bad_list, bad_window, many_blocks, little_room, no_refusal)

-- ---- what a number of 0 says

-- what is not refused
pub record Allowed (base window : ℕ) (events : List ℕ) (room : ℕ) : Type 0 where
  pub whole : is_whole (walk events).ending ≡ true
  pub allows : window_allowed base window ≡ true
  pub few : needed events ≤ 65536
  pub fits : 512 * needed events ≤ room

pub allowed : (base window : ℕ) (events : List ℕ) (room : ℕ) → write_number base window events room ≡ 0 → Allowed base window events room
unfolding write_number
allowed base window events room e =
    let p₁ = passed (not (is_whole (walk events).ending)) 25 _ (omega arith) e in
    let p₂ = passed (not (window_allowed base window)) 26 _ (omega arith) p₁.1 in
    let p₃ = passed (ltb 65536 (needed events)) 27 _ (omega arith) p₂.1 in
    let p₄ = passed (ltb room (512 * needed events)) 28 0 (omega arith) p₃.1 in
    record {
      whole = not-false _ p₁.0;
      allows = not-false _ p₂.0;
      few = ltb-false _ _ p₃.0;
      fits = ltb-false _ _ p₄.0;
    }

pub window_some : (base window : ℕ) → window_allowed base window ≡ true → 64 ≤ window
unfolding window_allowed
window_some base window e = by_bool (leb 64 window) (λ t. leb-true 64 window t) (λ t. absurd (false≢true (rw t at e)))

pub some_needed : (events : List ℕ) → 1 ≤ needed events
unfolding blocks_for
some_needed events = omega arith

-- the blocks can be put
pub write_can : (base window : ℕ) (events : List ℕ) (room n blocks : ℕ) → n ≡ write_number base window events room → n ≡ 0
    → blocks ≡ blocks_for (6 + length events) → (1 ≤ window) × ((1 ≤ blocks) × (blocks ≤ 65536))
write_can base window events room n blocks e z eb =
    let a = allowed base window events room (sym e ∙ z) in
    let w = window_some base window a.allows in
    let f = a.few in
    let s = some_needed events in
    (omega arith, (omega arith, omega arith))

-- ---- the room

module _ (base window : ℕ) (events m : List ℕ) (n : ℕ) (e : n ≡ write_number base window events (length m)) where
  -- refused: as it was
  pub write_refused : (n ≡ 0 → ⊥) → writing_of (record { number = n; blocks = 0 }) m ≡ write base window events m
  unfolding write
  write_refused h = rw (← e, ne_eqb n 0 h)

  pub write_done : n ≡ 0 → (blocks : ℕ) (room : List ℕ) → blocks ≡ blocks_for (6 + length events)
      → room ≡ store m 0 (blocks_of 0 blocks (stream_of base window events)) → writing_of (record { number = n; blocks = blocks }) room ≡ write base window events m
  unfolding write trace_of
  write_done z blocks room eb er = rw (← e, z, er, eb, length_stream base window events)
