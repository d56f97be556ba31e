-- The ways out of a replay, and that the events of a trace that is read have room. Assumes nothing.
use Prim.Native.Nat.{ℕ, ◌≤◌, ◌<◌}
use mathlib.Core.Path.{◌≡◌, refl, ap, ◌∙◌}
use mathlib.Core.List.{List}
use native.Mathlib.Omega.{arith}
use borrow.Author.Tests.{lt-ltb, le-ltb, eq-eqb, ne_eqb}
use lib.ListN.{length, take}
use Rattle.rules.proofs.Choices.{if_yes, if_no}
use Rattle.memory.specs.Memory.{store}
use Rattle.memory.proofs.Stores.{part_back}
use Rattle.stream.specs.Stream.{event_bytes}
use Rattle.trace.specs.Reading.{Summary, look}
use Rattle.trace.proofs.Good.{look_given}
use Rattle.enet.specs.declared.Enet.{Enet}
use Rattle.enet.specs.declared.Answered.{Answered}
use Rattle.enet.specs.Device.{new}
use Rattle.playback.specs.Playing.{bench_of, play_into, played as played_of}
use Rattle.replaying.specs.Replay.{Replayed, replaying, refusal, replay_number, replay}

-- ---- its number: the reading's, then 24

module _ (t : List ℕ) (room answers : ℕ) where
  number_unread : ((look t room).number ≡ 0 → ⊥) → (look t room).number ≡ replay_number t room answers
  unfolding replay_number
  number_unread h = if_no _ _ _ _ (ne_eqb (look t room).number 0 h) refl

  number_short : (look t room).number ≡ 0 → answers < (look t room).events → 24 ≡ replay_number t room answers
  unfolding replay_number
  number_short h l =
      if_yes _ _ _ _ (eq-eqb (look t room).number 0 h) (if_yes _ _ _ _ (lt-ltb answers (look t room).events l) refl)

  number_done : (look t room).number ≡ 0 → (look t room).events ≤ answers → 0 ≡ replay_number t room answers
  unfolding replay_number
  number_done h l =
      if_yes _ _ _ _ (eq-eqb (look t room).number 0 h) (if_no _ _ _ _ (le-ltb answers (look t room).events l) refl)

-- ---- the ways out

module _ (t room m out a : List ℕ) (f : Summary) (look_is : f ≡ look t (length room)) where
  -- refused as reading is
  pub replay_unread : (r : Replayed) → (f.number ≡ 0 → ⊥) → r ≡ refusal f.number f.block → replaying r room m out a ≡ replay t room m out a
  unfolding replay
  replay_unread r h q =
      let g : (look t (length room)).number ≡ 0 → ⊥ = rw look_is at h in
      rw (q, look_is, ← number_unread t (length room) (length a) g, ne_eqb (look t (length room)).number 0 g)

  -- too few answers
  pub replay_short : (r : Replayed) → f.number ≡ 0 → length a < f.events → r ≡ refusal 24 f.block → replaying r room m out a ≡ replay t room m out a
  unfolding replay
  replay_short r h l q =
      let g : (look t (length room)).number ≡ 0 = rw look_is at h in
      let k : length a < (look t (length room)).events = rw look_is at l in
      rw (q, look_is, ← number_short t (length room) (length a) g k)

  -- the day, played
  pub replay_done : (room' list m' out' a' : List ℕ) (n : Answered) (d : Enet) → f.number ≡ 0 → f.events ≤ length a → room' ≡ store room 0 (event_bytes t)
      → n ≡ new f.base f.window → list ≡ take f.bytes room' → played_of d m' out' a' ≡ play_into a (bench_of n.device m) out list
      → replaying (record { number = 0; block = 0; bytes = f.bytes; events = f.events; device = d }) room' m' out' a' ≡ replay t room m out a
  unfolding replay play_into
  replay_done room' list m' out' a' n d h l r b s p =
      let summary = look t (length room) in
      let g : summary.number ≡ 0 = rw look_is at h in
      let k : summary.events ≤ length a = rw look_is at l in
      let read = (look_given t (length room) g).1 in
      let fits = read.1 in
      let all : summary.bytes ≡ length (event_bytes t) = ap (λ (x : Summary). x.bytes) read.0 in
      let back : take (length (event_bytes t)) (store room 0 (event_bytes t)) ≡ event_bytes t = part_back room 0 (event_bytes t) (omega arith) in
      let events : list ≡ event_bytes t = s ∙ rw (look_is, all, r) back in
      let q : played_of d m' out' a' ≡ play_into a (bench_of (new summary.base summary.window).device m) out (event_bytes t) = rw (b, look_is, events) at p in
      rw (look_is, ← number_done t (length room) (length a) g k)
      (λ j. replaying (record { number = 0; block = 0; bytes = summary.bytes; events = summary.events; device = (q j).bench.device }) (r j) (q j).bench.memory (q j).output (q j).answers)
