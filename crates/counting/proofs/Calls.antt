-- What each call adds to the counters of frames. Assumes nothing.
use Prim.Native.Nat.{ℕ, zero, suc, ◌+◌}
use mathlib.Core.Path.{◌≡◌, refl, sym, ap, subst}
use mathlib.Core.Bool.{true}
use mathlib.Core.List.{List, [], ◌∷◌}
use native.Mathlib.Nat.{zero-add}
use lib.Dec.{eqb, ltb}
use borrow.Author.Tests.{ltb-false}
use Rattle.rules.proofs.Choices.{by_bool}
use Rattle.counters.specs.declared.Counters.{Counters}
use Rattle.enet.specs.Run.{run}
use Rattle.enet.proofs.Ways.{by_grant, by_receive, by_send, by_tick}
use Rattle.burst.specs.Taken.{taken, frames_inside}
use Rattle.calls.specs.Calls.{Bench, Call, looks, register_write, grant_call, receive_call, burst_call, send_call, step_run, tick_call, Result, call}
use Rattle.inputs.specs.Receives.{after_receives, receive_answers}
use Rattle.inputs.proofs.Receives.{single_receives_lem}
use Rattle.outputs.specs.Runs.{Stand, begins, single, further, after}
use Rattle.outputs.proofs.Runs.{single_sends}
use Rattle.changes.proofs.Branches.{by_write}
use Rattle.counting.specs.Events.{times, delivered_in, lost_in, send_answers, sent_in}
use Rattle.counting.proofs.More.{more}
use Rattle.counting.proofs.Adds.{Adds, adds_none, adds_both}

-- a call on a bench, with what it adds
abbrev pub CallAdds : Bench → Call → Type 0
CallAdds b c = Adds (delivered_in b c) (lost_in b c) (sent_in b c) b.device.counters (call b c).bench.device.counters

-- answers that add to delivered and lost, and answers that add to sent
abbrev Receives : List ℕ → Counters → Counters → Type 0
Receives answers c e = Adds (times 0 answers) (times 8 answers) 0 c e

abbrev Sends : List ℕ → Counters → Counters → Type 0
Sends answers c e = Adds 0 0 (times 0 answers) c e

no_frames : (c : Counters) → Adds 0 0 0 c c
no_frames c = adds_none c c refl refl refl

-- ---- receives

receive_adds : (b : Bench) (frame : List ℕ)
    → Receives ((call b (receive_call frame)).number ∷ []) b.device.counters (call b (receive_call frame)).bench.device.counters
unfolding times more
receive_adds b frame =
    by_receive (λ o. Receives (o.number ∷ []) b.device.counters o.device.counters) b.device b.memory frame
    (no_frames _) (no_frames _) (no_frames _) (no_frames _) (no_frames _) (no_frames _)
    (record { delivered' = refl; lost' = refl; sent' = refl })
    (record { delivered' = refl; lost' = refl; sent' = refl })

-- one answer before others
times_behind : (n x : ℕ) (xs : List ℕ) → times n (x ∷ []) + times n xs ≡ times n (x ∷ xs)
unfolding times
times_behind n x xs = by_bool (eqb x n) (λ e. rw e) (λ e. rw (e, zero-add))

receives_add : (frames : List (List ℕ)) (b : Bench)
    → Receives (receive_answers b frames) b.device.counters (after_receives b frames).device.counters
unfolding receive_answers after_receives times
receives_add [] b = no_frames _
receives_add (frame ∷ frames) b =
    join (call b (receive_call frame)) (receive_adds b frame) (receives_add frames (call b (receive_call frame)).bench)
  where
    join : (r : Result) → Receives (r.number ∷ []) b.device.counters r.bench.device.counters
        → Receives (receive_answers r.bench frames) r.bench.device.counters (after_receives r.bench frames).device.counters
        → Receives (r.number ∷ receive_answers r.bench frames) b.device.counters (after_receives r.bench frames).device.counters
    join r p q =
        subst (λ n. Adds n (times 8 (r.number ∷ receive_answers r.bench frames)) 0 b.device.counters (after_receives r.bench frames).device.counters)
        (times_behind 0 r.number (receive_answers r.bench frames))
        (subst (λ n. Adds (times 0 (r.number ∷ []) + times 0 (receive_answers r.bench frames)) n 0 b.device.counters (after_receives r.bench frames).device.counters)
        (times_behind 8 r.number (receive_answers r.bench frames))
        (adds_both p q))

burst_adds : (b : Bench) (store starts lengths answers : List ℕ) → CallAdds b (burst_call store starts lengths answers)
unfolding times
burst_adds b store starts lengths answers =
    let frames = frames_inside store (taken starts lengths answers) in
    let r = single_receives_lem b store starts lengths answers in
    subst (λ (e : Bench). Receives (call b (burst_call store starts lengths answers)).answers b.device.counters e.device.counters) (sym r.bench)
    (subst (λ xs. Receives xs b.device.counters (after_receives b frames).device.counters) (sym r.answers) (receives_add frames b))

-- ---- sends

send_adds : (b : Bench) (output : List ℕ)
    → Sends ((call b (send_call output)).number ∷ []) b.device.counters (call b (send_call output)).bench.device.counters
unfolding times more
send_adds b output =
    by_send (λ s. Sends (s.number ∷ []) b.device.counters s.device.counters) b.device b.memory output
    (no_frames _) (no_frames _) (no_frames _) (no_frames _) (no_frames _) (no_frames _)
    (λ _ _. record { delivered' = refl; lost' = refl; sent' = refl })

-- the next k single sends of a run
sends_add : (k : ℕ) (s : Stand) → Sends (send_answers k s) s.bench.device.counters (after k s).bench.device.counters
unfolding send_answers times
sends_add zero s = no_frames _
sends_add (suc k) s =
    subst (λ n. Adds 0 0 n s.bench.device.counters (after k (further s)).bench.device.counters)
    (times_behind 0 (single s).number (send_answers k (further s)))
    (adds_both (send_adds s.bench s.rest) (sends_add k (further s)))

run_refused : (b : Bench) (output : List ℕ) (allowance : ℕ) → ltb 4096 allowance ≡ true → CallAdds b (step_run output allowance)
unfolding run send_answers times
run_refused b output allowance h = rw h (no_frames _)

run_adds : (b : Bench) (output : List ℕ) (allowance : ℕ) → CallAdds b (step_run output allowance)
unfolding times
run_adds b output allowance = by_bool (ltb 4096 allowance) (run_refused b output allowance) (λ h.
    let r = call b (step_run output allowance) in
    let g = single_sends b output allowance (ltb-false 4096 allowance h) in
    let e : r.bench ≡ (after r.steps (begins b output)).bench = ap (λ x. x.bench) g.gives in
    subst (λ (x : Bench). Sends (send_answers r.steps (begins b output)) b.device.counters x.device.counters) (sym e)
    (sends_add r.steps (begins b output)))

-- ---- every call

-- of a call without frames
abbrev Same : Counters → Counters → Type 0
Same c e = Adds 0 0 0 c e

pub call_adds : (b : Bench) (c : Call) → CallAdds b c
unfolding times
call_adds b (looks look) = no_frames _
call_adds b (register_write offset value) =
    by_write (λ a. Same b.device.counters a.device.counters) b.device value (no_frames _) (no_frames _) offset
    (adds_none _ _ refl refl refl)
call_adds b (grant_call address) =
    by_grant (λ o. Same b.device.counters o.device.counters) b.device b.memory address
    (no_frames _) (no_frames _) (no_frames _) (no_frames _)
call_adds b (receive_call frame) = receive_adds b frame
call_adds b (burst_call store starts lengths answers) = burst_adds b store starts lengths answers
call_adds b (send_call output) = send_adds b output
call_adds b (step_run output allowance) = run_adds b output allowance
call_adds b tick_call =
    by_tick (λ a. Same b.device.counters a.device.counters) b.device b.memory
    (no_frames _) (adds_none _ _ refl refl refl) (adds_none _ _ refl refl refl) (adds_none _ _ refl refl refl)
