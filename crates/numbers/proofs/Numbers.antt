-- What each call answers: the theorem. Assumes nothing.
use mathlib.Core.Path.{◌≡◌, refl}
use mathlib.Core.Bool.{true}
use mathlib.Core.List.{[], ◌∷◌}
use Rattle.enet.proofs.Ways.{by_grant, by_receive, by_tick}
use Rattle.calls.specs.Looks.{Look, register_read, line_read, reading_number_call, reading_call, ring_check, sees}
use Rattle.calls.specs.Calls.{Bench, Call, looks, register_write, grant_call, receive_call, burst_call, send_call, step_run, tick_call, call}
use Rattle.changes.specs.OneOf.{one_of}
use Rattle.changes.proofs.Branches.{by_new, by_read, by_write, by_reading}
use Rattle.inputs.proofs.Receives.{pair_by_pair}
use Rattle.numbers.specs.Numbers.{look_numbers, numbers, greatest, NumbersOf}
use Rattle.numbers.proofs.Given.{send_number_lem, run_number, all_small, small}
use Rattle.numbers.proofs.Bursts.{burst_number, pair_number, pair_sixteen}
use Rattle.numbers.proofs.Readings.{empty_part_lem}

-- ---- the number is one of the call's

look_among : (b : Bench) (l : Look) → one_of (sees b.device b.memory l).number (0 ∷ look_numbers l) ≡ true
look_among b (register_read offset) =
    by_read (λ v. one_of v.number (0 ∷ look_numbers (register_read offset)) ≡ true) b.device offset refl refl
look_among b line_read = refl
look_among b (reading_number_call address) =
    by_reading (λ n. one_of n (0 ∷ look_numbers (reading_number_call address)) ≡ true)
    b.device.base b.device.window b.memory address
    refl refl (λ _ _. refl)
look_among b (reading_call address) = refl
look_among b (ring_check number first) = refl

among : (b : Bench) (c : Call) → one_of (call b c).number (0 ∷ numbers c) ≡ true
among b (looks look) = look_among b look
among b (register_write offset value) =
    by_write (λ a. one_of a.number (0 ∷ numbers (register_write offset value)) ≡ true) b.device value refl refl offset refl
among b (grant_call address) =
    by_grant (λ o. one_of o.number (0 ∷ numbers (grant_call address)) ≡ true) b.device b.memory address refl refl refl refl
among b (receive_call frame) =
    by_receive (λ o. one_of o.number (0 ∷ numbers (receive_call frame)) ≡ true) b.device b.memory frame
    refl refl refl refl refl refl refl refl
among b (burst_call store starts lengths answers) = burst_number b store starts lengths answers
among b (send_call output) = send_number_lem b.device b.memory output
among b (step_run output allowance) = run_number b.device b.memory output allowance
among b tick_call = by_tick (λ a. one_of a.number (0 ∷ numbers tick_call) ≡ true) b.device b.memory refl refl refl refl

-- ---- and none is greater than the greatest

look_small : (l : Look) → all_small greatest (0 ∷ look_numbers l) ≡ true
unfolding all_small
look_small (register_read offset) = refl
look_small line_read = refl
look_small (reading_number_call address) = refl
look_small (reading_call address) = refl
look_small (ring_check number first) = refl

all_small_lem : (c : Call) → all_small greatest (0 ∷ numbers c) ≡ true
unfolding all_small
all_small_lem (looks look) = look_small look
all_small_lem (register_write offset value) = refl
all_small_lem (grant_call address) = refl
all_small_lem (receive_call frame) = refl
all_small_lem (burst_call store starts lengths answers) = refl
all_small_lem (send_call output) = refl
all_small_lem (step_run output allowance) = refl
all_small_lem tick_call = refl

pub numbers_of : NumbersOf
numbers_of = record {
  of_new = λ base window. by_new (λ a. one_of a.number (0 ∷ 1 ∷ []) ≡ true) base window refl refl;
  of_call = among;
  small = λ b c. small greatest (call b c).number (0 ∷ numbers c) (all_small_lem c) (among b c);
  of_pair = λ b store starts lengths answers z k l. pair_number _ _ _ _ _ (pair_by_pair b store starts lengths answers z k l);
  sixteen = λ b store starts lengths answers z k l. pair_sixteen _ _ _ _ _ (pair_by_pair b store starts lengths answers z k l);
  empty_part = empty_part_lem;
}
