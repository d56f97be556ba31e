-- What each permitted step does. Assumes nothing.
use Prim.Native.Nat.{ℕ, ◌<◌}
use mathlib.Core.Path.{◌≡◌, refl, sym, subst}
use mathlib.Core.List.{List, [], ◌++◌, append-nil}
use native.Mathlib.Nat.{not-suc-le-zero}
use lib.ListN.{length}
use Rattle.calls.specs.Calls.{Bench, looks, register_write, grant_call, receive_call, burst_call, send_call, step_run, tick_call}
use Rattle.inputs.specs.Receives.{after_receives, receive_answers}
use Rattle.inputs.proofs.Receives.{single_receives_lem}
use Rattle.steps.specs.Steps.{Step, public_call, firmware_write, step, grants_of, frames_of, answers_of, counted_all, Progress, after_step}
use Rattle.steps.specs.Start.{Permitted}
use Rattle.history.specs.Claim.{Met}
use Rattle.steps.proofs.Places.{RingSound}
use Rattle.steps.proofs.Invariant.{InvP}
use Rattle.history.proofs.Counts.{Moved, moved_none}
use Rattle.steps.proofs.Steps.{look_keeps, write_keeps, grant_keeps, send_keeps, run_keeps, tick_keeps, firmware_keeps}
use Rattle.steps.proofs.Arrivals.{passes, InvB}
use Rattle.history.proofs.Frames.{all_kept, all_moved, MetIn, all_met}

-- what a step does: it keeps the invariant, the answers of its frames follow from the grants before them, and each frame meets
-- what demand 3 says
pub record Does (b : Bench) (n first : ℕ) (sound : RingSound b n first) (p : Progress) (s : Step) : Type 0 where
  pub kept : InvP b n first sound (after_step p s)
  pub moved : Moved (passes b) (frames_of s) (length p.grants) p.delivered (answers_of p.bench s)
  pub met : (k : ℕ) → k < length (frames_of s) → Met b p s k

module _ {b : Bench} {n first : ℕ} {sound : RingSound b n first} (p : Progress) (i : InvP b n first sound p) where
  -- a step that brings no frame
  silent : (s : Step) → frames_of s ≡ [] → answers_of p.bench s ≡ [] → InvP b n first sound (after_step p s) → Does b n first sound p s
  silent s f a kept = record {
    kept = kept;
    moved = rw (f, a) (moved_none (passes b) (length p.grants) p.delivered);
    met = λ k l. absurd (not-suc-le-zero (rw f at l));
  }

  -- a step that is the single receives of its frames
  received : (s : Step) → grants_of s (step p.bench s).number ≡ [] → (step p.bench s).bench ≡ after_receives p.bench (frames_of s)
      → answers_of p.bench s ≡ receive_answers p.bench (frames_of s) → Does b n first sound p s
  received s g e a = record {
    kept = end e a g (rw (append-nil p.grants) (all_kept b n first sound (frames_of s) p.bench p.grants p.delivered i));
    moved =
        subst (Moved (passes b) (frames_of s) (length p.grants) p.delivered) (sym a)
        (all_moved b n first sound (frames_of s) p.bench p.grants p.delivered i);
    met = λ k l.
        let m = meets k e a (all_met b n first sound (frames_of s) p.bench p.grants p.delivered i k l) in
        record { nth = m.nth; lost = m.lost; otherwise = m.otherwise };
  }
    where
      end : {c e : Bench} {xs ys gs : List ℕ} → e ≡ c → xs ≡ ys → gs ≡ []
          → InvB b n first sound c (p.grants ++ []) (counted_all p.delivered ys) → InvB b n first sound e (p.grants ++ gs) (counted_all p.delivered xs)
      end {c} {e} {xs} {ys} {gs} u v w j =
          subst (λ gs. InvB b n first sound e (p.grants ++ gs) (counted_all p.delivered xs)) (sym w)
          (subst (λ xs. InvB b n first sound e (p.grants ++ []) (counted_all p.delivered xs)) (sym v)
          (subst (λ e. InvB b n first sound e (p.grants ++ []) (counted_all p.delivered ys)) (sym u) j))

      meets : (k : ℕ) {c e : Bench} {xs ys : List ℕ} → e ≡ c → xs ≡ ys
          → MetIn b n first sound c p.grants p.delivered ys (frames_of s) k → MetIn b n first sound e p.grants p.delivered xs (frames_of s) k
      meets k {c} {e} {xs} {ys} u v m =
          subst (λ xs. MetIn b n first sound e p.grants p.delivered xs (frames_of s) k) (sym v)
          (subst (λ e. MetIn b n first sound e p.grants p.delivered ys (frames_of s) k) (sym u) m)

  -- a receive is its own
  single : (frame : List ℕ) → Does b n first sound p (public_call (receive_call frame))
  unfolding after_receives receive_answers
  single frame = received _ refl refl refl

  pub does : (s : Step) → Permitted b n first p s → Does b n first sound p s
  does (public_call (looks look)) permit = silent _ refl refl (look_keeps p i look)
  does (public_call (register_write register value)) permit = silent _ refl refl (write_keeps p i register value permit)
  does (public_call (grant_call address)) permit = silent _ refl refl (grant_keeps p i address permit)
  does (public_call (receive_call frame)) permit = single frame
  does (public_call (burst_call store starts lengths answers)) permit =
      let r = single_receives_lem p.bench store starts lengths answers in received _ refl r.bench r.answers
  does (public_call (send_call output)) permit = silent _ refl refl (send_keeps p i output)
  does (public_call (step_run output allowance)) permit = silent _ refl refl (run_keeps p i output allowance)
  does (public_call tick_call) permit = silent _ refl refl (tick_keeps p i)
  does (firmware_write at bytes) permit = silent _ refl refl (firmware_keeps p i at bytes permit)
