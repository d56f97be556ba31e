-- A replay that is not refused: what its trace is, and what it leaves beside the direct calls. Assumes nothing.
use Prim.Native.Nat.{ℕ, ◌≤◌, ◌<◌}
use mathlib.Core.Path.{◌≡◌, refl, sym, ap, ◌∙◌}
use mathlib.Core.List.{List, ◌∷◌, ◌++◌}
use native.Mathlib.Nat.{zero-add}
use native.Mathlib.Omega.{arith}
use borrow.Author.Tests.{eqb-true, ltb-false}
use lib.Dec.{eqb, ltb}
use lib.ListN.{length, get_or, drop, length-append}
use lib.Seq.{sets-eq, drop_at, get_or-take, get_or_at}
use Rattle.std.specs.Prelude.{if◌then◌else◌}
use Rattle.rules.proofs.Choices.{by_bool, passed, neither}
use Rattle.memory.specs.Memory.{store}
use Rattle.memory.proofs.Stores.{part_back}
use Rattle.event.specs.Event.{Event}
use Rattle.event.specs.Walk.{walk}
use Rattle.stream.specs.Stream.{event_bytes}
use Rattle.trace.specs.Reading.{Summary, look}
use Rattle.trace.proofs.Good.{look_given, header_right, events_whole}
use Rattle.enet.specs.Device.{new}
use Rattle.playback.specs.Playing.{Played, act, play}
use Rattle.playback.proofs.Turns.{length_play}
use Rattle.replaying.specs.Replay.{replay_number, played, replay}
use Rattle.day_steps.specs.Replayed.{BenchIsNew, AllEvents, bench_for, direct, DirectCalls, InPlace}
use Rattle.day_steps.proofs.DayProof.{days_in_parts}

-- ---- a trace that is read

pub bench_is_new : BenchIsNew
unfolding new
bench_is_new t room read =
    let g = look_given t room read in
    rw (g.1.0, (header_right t g.0).1)

pub all_events : AllEvents
unfolding event_bytes
all_events t room read = events_whole t (look_given t room read).0

-- ---- the answer list

-- the rest of a list behind what was stored at its front
rest_kept : (a s : List ℕ) → length s ≤ length a → drop (length s) (store a 0 s) ≡ drop (length s) a
unfolding store
rest_kept a s h = rw (sets-eq s a 0 (omega arith), zero-add (length s)) (drop_at s (drop (length s) a) (length s) refl)

-- ---- a replay that is not refused

module _ (t room m o a : List ℕ) (done : (replay t room m o a).replayed.number ≡ 0) where
  abbrev n : ℕ
  n = replay_number t (length room) (length a)

  not_refused : n ≡ 0
  unfolding replay
  not_refused = by_bool (eqb n 0) (λ u. eqb-true n 0 u) (λ u. rw u at done)

  -- it was read, and has answers enough
  was_read : ((look t (length room)).number ≡ 0) × ((look t (length room)).events ≤ length a)
  unfolding replay_number
  was_read =
      let f = look t (length room) in
      let p = neither f.number (if ltb (length a) f.events then 24 else 0) not_refused in
      (p.0, ltb-false (length a) f.events (passed (ltb (length a) f.events) 24 0 (omega arith) p.1).0)

  is_played : replay t room m o a ≡ played t room m o a
  unfolding replay
  is_played = rw not_refused

  abbrev d : Played
  d = direct t (length room) m o

  -- an answer for each event
  counted : (look t (length room)).events ≡ length d.answers
  counted =
      ap (λ (x : Summary). x.events) (look_given t (length room) was_read.0).1.0
      ∙ sym (length_play (walk (event_bytes t)).events (bench_for t (length room) m) o)

  fits : length d.answers ≤ length a
  fits =
      let enough = was_read.1 in
      let c = counted in
      omega arith

pub direct_calls : DirectCalls
direct_calls t room m o a done =
    let d = direct t (length room) m o in
    let c = counted t room m o a done in
    let f = fits t room m o a done in
    rw (is_played t room m o a done)
    (record {
      state = refl;
      memory = refl;
      output = refl;
      count = c;
      answers = rw c (part_back a 0 d.answers (omega arith));
      rest = rw c (rest_kept a d.answers f);
    })

pub in_place : InPlace
unfolding play
in_place t room m o a done ds e es is =
    let b = bench_for t (length room) m in
    let r = replay t room m o a in
    let same = direct_calls t room m o a done in
    let before = play b o ds in
    let behind = act before.bench before.output e in
    let rest = play behind.bench behind.output es in
    let all : (direct t (length room) m o).answers ≡ before.answers ++ behind.number ∷ rest.answers =
    ap (λ (x : List Event). (play b o x).answers) is ∙ (days_in_parts b o ds (e ∷ es)).answers in
    let long : length ds < r.replayed.events =
    let c = same.count in
    let l = ap length all in
    let k = length-append before.answers (behind.number ∷ rest.answers) in
    let p = length_play ds b o in
    omega arith in
    sym (get_or-take r.replayed.events r.answers (length ds) 0 long)
    ∙ ap (λ (l : List ℕ). get_or l (length ds) 0) (same.answers ∙ all)
    ∙ get_or_at before.answers behind.number rest.answers 0 (length ds) (length_play ds b o)
