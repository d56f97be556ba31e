-- A step run equals the single sends that it makes. Assumes nothing.
use Prim.Native.Nat.{ℕ, zero, suc, ◌+◌, ◌≤◌, ◌<◌}
use mathlib.Core.Path.{◌≡◌, refl, sym, ap, ◌∙◌}
use mathlib.Core.Logic.{◌≢◌}
use mathlib.Core.List.{List, [], ◌++◌, append_assoc}
use native.Mathlib.Nat.{add-zero, zero-add, add-suc, suc-add, add_assoc}
use native.Mathlib.Numerals.{add-one}
use native.Mathlib.Omega.{arith}
use lib.Dec.{eqb}
use lib.ListN.{length, take, length-append, take-append-drop}
use lib.Seq.{length-take-le}
use borrow.Author.Tests.{eqb-true, eqb-false, le-ltb}
use Rattle.rules.proofs.Choices.{by_test}
use Rattle.enet.specs.Send.{Sending, send}
use Rattle.enet.specs.Run.{Running, followed, unsent, sends, run}
use Rattle.calls.specs.Calls.{Bench, step_run, Result, call, of_running}
use Rattle.enet.proofs.Sends.{send_unsent}
use Rattle.outputs.specs.Runs.{Stand, begins, single, further, after, ended, SingleSends}
use Rattle.outputs.proofs.Sends.{send_front}

-- what a run gives that goes on from a stand
abbrev onward : Stand → Running → Result
onward s r = record {
  number = r.number;
  bench = record { device = r.device; memory = r.memory };
  value = length s.written + r.count;
  steps = s.steps + r.steps;
  bytes = s.written ++ r.output;
  answers = [];
  list = [];
}

record From (s : Stand) (left : ℕ) (r : Running) : Type 0 where
  gives : onward s r ≡ ended r.number (after r.steps s)
  sent : (k : ℕ) → suc k < r.steps → (single (after k s)).number ≡ 0
  last : (k : ℕ) → suc k ≡ r.steps → (single (after k s)).number ≡ r.number
  none : r.steps ≡ 0 → r.number ≡ 0
  within : r.steps ≤ left
  used : r.number ≡ 0 → r.steps ≡ left

abbrev next : Stand → Sending
next s = send s.bench.device s.bench.memory s.rest

-- the bytes of the next send that it wrote
length_sent : (s : Stand) → length (s.written ++ take (next s).count (next s).output) ≡ length s.written + (next s).count
length_sent s =
    let w = send_front s.bench.device s.bench.memory s.rest in
    let e = length-take-le (next s).count (next s).output (omega (arith, w.fits, w.size)) in
    rw (length-append, e)

-- one send that sent, and a run behind it
on_sent : (s : Stand) (r : Running) → onward s (followed (next s) r) ≡ onward (further s) r
on_sent s r = rw (length_sent s) (simp (append_assoc, add_assoc, add-suc, suc-add))

from_sent : (s : Stand) (left : ℕ) (r : Running) → (next s).number ≡ 0 → From (further s) left r → From s (suc left) (followed (next s) r)
from_sent s left r e f = record {
  gives = on_sent s r ∙ f.gives;
  sent = sent_k;
  last = last_k;
  none = λ z. absurd (omega arith);
  within = omega (arith, f.within);
  used = λ z. ap suc (f.used z);
}
  where
    sent_k : (k : ℕ) → suc k < suc r.steps → (single (after k s)).number ≡ 0
    sent_k zero l = e
    sent_k (suc k) l = f.sent k (omega arith)

    last_k : (k : ℕ) → suc k ≡ suc r.steps → (single (after k s)).number ≡ r.number
    last_k zero z = e ∙ sym (f.none (omega arith))
    last_k (suc k) z = f.last k (omega arith)

-- one send that did not
on_unsent : (s : Stand) → (next s).count ≡ 0 → onward s (unsent (next s)) ≡ ended (next s).number (further s)
on_unsent s e = rw (length_sent s, e, append_assoc, take-append-drop) (simp (add-one, add-zero))

from_unsent : (s : Stand) (left : ℕ) → (next s).number ≢ 0 → From s (suc left) (unsent (next s))
from_unsent s left n = record {
  gives = on_unsent s (send_unsent s.bench.device s.bench.memory s.rest n).count;
  sent = λ k l. absurd (omega arith);
  last = last_k;
  none = λ z. absurd (omega arith);
  within = omega arith;
  used = λ z. absurd (n z);
}
  where
    last_k : (k : ℕ) → suc k ≡ 1 → (single (after k s)).number ≡ (next s).number
    last_k zero z = refl
    last_k (suc k) z = absurd (omega arith)

from : (left : ℕ) (s : Stand) → From s left (sends left s.bench.device s.bench.memory s.rest)
unfolding sends
from zero s = record {
  gives = simp add-zero;
  sent = λ k l. absurd (omega arith);
  last = λ k l. absurd (omega arith);
  none = λ z. refl;
  within = omega arith;
  used = λ z. refl;
}
from (suc left) s =
    by_test (From s (suc left)) (eqb (next s).number 0) _ _
    (λ e. from_sent s left _ (eqb-true (next s).number 0 e) (from left (further s)))
    (λ e. from_unsent s left (eqb-false (next s).number 0 e))

at_start : (b : Bench) (output : List ℕ) (r : Running) → of_running r ≡ onward (begins b output) r
at_start b output r = simp zero-add

-- "Step run: 10, then single sends."
run_within : (b : Bench) (output : List ℕ) (allowance : ℕ) → allowance ≤ 4096
    → run b.device b.memory output allowance ≡ sends allowance b.device b.memory output
unfolding run
run_within b output allowance h = rw (le-ltb 4096 allowance h)

pub single_sends : (b : Bench) (output : List ℕ) (allowance : ℕ) → allowance ≤ 4096
    → SingleSends b output allowance (call b (step_run output allowance))
single_sends b output allowance h =
    let f = from allowance (begins b output) in
    rw (run_within b output allowance h) (record {
      gives = at_start b output _ ∙ f.gives;
      sent = f.sent;
      last = f.last;
      none = f.none;
      within = f.within;
      used = f.used;
    })
