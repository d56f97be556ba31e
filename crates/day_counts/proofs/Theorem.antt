-- A replayed day counts each frame. Assumes nothing.
use Prim.Native.Nat.{ℕ}
use mathlib.Core.Path.{◌≡◌, refl, sym, ap, subst, ◌∙◌}
use mathlib.Core.List.{List, [], ◌∷◌}
use lib.Dec.{eqb}
use lib.ListN.{length, take}
use Rattle.std.specs.Prelude.{if◌then◌else◌}
use Rattle.rules.proofs.Choices.{by_bool}
use Rattle.counters.specs.declared.Counters.{Counters}
use Rattle.event.specs.Event.{Event, register_write, grant, frame, send}
use Rattle.event.specs.Walk.{walk}
use Rattle.stream.specs.Stream.{event_bytes}
use Rattle.enet.specs.declared.Enet.{Enet}
use Rattle.trace.specs.Reading.{look}
use Rattle.calls.specs.Calls.{Bench, call}
use Rattle.playback.specs.Playing.{call_of, act, play}
use Rattle.replaying.specs.Replay.{replay}
use Rattle.day_steps.specs.Replayed.{bench_for, direct}
use Rattle.day_steps.proofs.ReplayedProof.{direct_calls}
use Rattle.counting.specs.Events.{times, delivered_in, lost_in, sent_in}
use Rattle.counting.specs.Counted.{up_to}
use Rattle.counting.proofs.More.{more, more_since}
use Rattle.counting.proofs.Adds.{Adds, adds_none, adds_both}
use Rattle.counting.proofs.Calls.{call_adds}
use Rattle.counting.proofs.Theorem.{new_counters}
use Rattle.day_counts.specs.DayCounts.{is_frame, is_send, answering, DayCounted, ReplaysCount}

-- one answer, counted where it is n
abbrev one : ℕ → ℕ → ℕ → ℕ
one k a n = if eqb a n then k else 0

times_one : (n a : ℕ) → times n (a ∷ []) ≡ one 1 a n
unfolding times
times_one n a = by_bool (eqb a n) (λ e. rw e) (λ e. rw e)

one_none : (n a : ℕ) → 0 ≡ one 0 a n
one_none n a = by_bool (eqb a n) (λ e. rw e) (λ e. rw e)

times_none : (n a : ℕ) → times n [] ≡ one 0 a n
unfolding times
times_none n a = one_none n a

-- what an event adds, by its answer
module _ (b : Bench) (output : List ℕ) where
  abbrev Event_adds : Event → Type 0
  Event_adds e =
      let a = act b output e in
      Adds (one (is_frame e) a.number 0) (one (is_frame e) a.number 8) (one (is_send e) a.number 0) b.device.counters a.bench.device.counters

  adds_as : (e : Event)
      → delivered_in b (call_of output e) ≡ one (is_frame e) (call b (call_of output e)).number 0
      → lost_in b (call_of output e) ≡ one (is_frame e) (call b (call_of output e)).number 8
      → sent_in b (call_of output e) ≡ one (is_send e) (call b (call_of output e)).number 0
      → Event_adds e
  unfolding act
  adds_as e p q r =
      let c = call_of output e in
      let n = (call b c).number in
      subst (λ x. Adds x (one (is_frame e) n 8) (one (is_send e) n 0) b.device.counters (call b c).bench.device.counters) p
      (subst (λ x. Adds (delivered_in b c) x (one (is_send e) n 0) b.device.counters (call b c).bench.device.counters) q
      (subst (λ x. Adds (delivered_in b c) (lost_in b c) x b.device.counters (call b c).bench.device.counters) r
      (call_adds b c)))

  -- an event that is neither a frame nor a send
  neither : (n : ℕ) (e : Event) → times n [] ≡ one 0 (call b (call_of output e)).number n
  neither n e = times_none n (call b (call_of output e)).number

  event_adds : (e : Event) → Event_adds e
  event_adds (register_write offset value) =
      let e = register_write offset value in adds_as e (neither 0 e) (neither 8 e) (neither 0 e)
  event_adds (grant address) = let e = grant address in adds_as e (neither 0 e) (neither 8 e) (neither 0 e)
  event_adds (frame bytes) = let e = frame bytes in adds_as e (times_one 0 _) (times_one 8 _) (neither 0 e)
  event_adds send = adds_as send (neither 0 send) (neither 8 send) (times_one 0 _)

-- and all of them
play_adds : (es : List Event) (b : Bench) (output : List ℕ)
    → let p = play b output es in
    Adds (answering is_frame 0 es p.answers) (answering is_frame 8 es p.answers) (answering is_send 0 es p.answers)
    b.device.counters p.bench.device.counters
unfolding play answering
play_adds [] b output = adds_none _ _ refl refl refl
play_adds (e ∷ es) b output = adds_both (event_adds b output e) (play_adds es (act b output e).bench (act b output e).output)

-- ---- a replay

since : (k n : ℕ) → n ≡ 0 → more k n ≡ up_to k
since k n e = ap (more k) e ∙ more_since k

-- the events as direct calls
direct_counts : (t : List ℕ) (room : ℕ) (m o : List ℕ)
    → let d = direct t room m o in DayCounted (walk (event_bytes t)).events d.answers d.bench.device.counters
direct_counts t room m o =
    let f = look t room in
    let adds = play_adds (walk (event_bytes t)).events (bench_for t room m) o in
    let began = new_counters f.base f.window in
    record {
      delivered = adds.delivered' ∙ since _ _ (ap (λ (c : Counters). c.delivered) began);
      lost = adds.lost' ∙ since _ _ (ap (λ (c : Counters). c.lost) began);
      sent = adds.sent' ∙ since _ _ (ap (λ (c : Counters). c.sent) began);
    }

pub replays_count : ReplaysCount
replays_count t room m o a done =
    let same = direct_calls t room m o a done in
    let d = direct t (length room) m o in
    let r = replay t room m o a in
    let es = (walk (event_bytes t)).events in
    subst (λ (e : Enet). DayCounted es (take r.replayed.events r.answers) e.counters) (sym same.state)
    (subst (λ l. DayCounted es l d.bench.device.counters) (sym same.answers) (direct_counts t (length room) m o))
