-- What a step run leaves of the output. Assumes nothing.
use Prim.Native.Nat.{ℕ, zero, suc, ◌+◌, ◌-◌, ◌≤◌}
use mathlib.Core.Path.{◌≡◌, refl, ◌∙◌}
use mathlib.Core.List.{List, ◌++◌}
use native.Mathlib.Omega.{arith}
use lib.Dec.{eqb, ltb}
use lib.ListN.{length, get_or, take, drop, length-append, length-drop}
use lib.Seq.{length-take-le, get_or-append-add, get_or-drop}
use borrow.Author.Tests.{eqb-false}
use Rattle.rules.proofs.Choices.{by_test}
use Rattle.enet.specs.declared.Enet.{Enet}
use Rattle.enet.specs.Send.{Sending, send}
use Rattle.enet.specs.Run.{Running, followed, sends, run}
use Rattle.calls.specs.Calls.{Bench, step_run, call, of_sending, of_running}
use Rattle.enet.proofs.Sends.{send_unsent}
use Rattle.outputs.specs.Outputs.{FrontOnly}
use Rattle.outputs.proofs.Sends.{send_front}

-- a run that wrote nothing
none : (n : ℕ) (d : Enet) (m out : List ℕ) (k : ℕ)
    → FrontOnly out (of_running (record { number = n; device = d; memory = m; output = out; steps = k; count = 0 }))
none n d m out k = record { fits = omega arith; size = refl; rest = λ j h. refl }

-- a byte behind the first n of a list, and of a list put behind n others
behind : (xs ys zs : List ℕ) (n j : ℕ) → length xs ≡ n → n ≤ j
    → get_or ys (j - n) 0 ≡ get_or (drop n zs) (j - n) 0 → get_or (xs ++ ys) j 0 ≡ get_or zs j 0
behind xs ys zs n j e h same =
    let at : length xs + (j - n) ≡ j = omega arith in
    let there : n + (j - n) ≡ j = omega arith in
    rw at at (get_or-append-add xs ys (j - n) 0) ∙ same ∙ rw there at (get_or-drop n zs (j - n) 0)

-- a send that sent, and a run into the remaining output
then_run : (out : List ℕ) (s : Sending) (r : Running)
    → FrontOnly out (of_sending s) → FrontOnly (drop s.count s.output) (of_running r) → FrontOnly out (of_running (followed s r))
then_run out s r w f =
    let xs = take s.count s.output in
    let front : length xs ≡ s.count = length-take-le s.count s.output (omega (arith, w.fits, w.size)) in
    let back = length-drop s.count s.output in
    record {
      fits = omega (arith, w.fits, w.size, f.fits);
      size = rw (length-append, front) (omega (arith, w.fits, w.size, f.size));
      rest = λ j h.
          behind xs r.output s.output s.count j front (omega arith) (f.rest (j - s.count) (omega arith))
          ∙ w.rest j (omega arith);
    }

sends_front : (left : ℕ) (d : Enet) (m out : List ℕ) → FrontOnly out (of_running (sends left d m out))
unfolding sends
sends_front zero d m out = none 0 d m out 0
sends_front (suc left) d m out =
    let s = send d m out in
    by_test (λ r. FrontOnly out (of_running r)) (eqb s.number 0) _ _
    (λ _. then_run out s _ (send_front d m out) (sends_front left _ _ _))
    (λ e. rw (send_unsent d m out (eqb-false s.number 0 e)).output (none s.number s.device s.memory out 1))

pub run_front : (b : Bench) (output : List ℕ) (allowance : ℕ) → FrontOnly output (call b (step_run output allowance))
unfolding run
run_front b output allowance =
    by_test (λ r. FrontOnly output (of_running r)) (ltb 4096 allowance) _ _
    (λ _. none 10 b.device b.memory output 0)
    (λ _. sends_front allowance b.device b.memory output)
