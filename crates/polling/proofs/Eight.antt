-- Number 8 is given by an engine that runs, and leaves it running exactly if polling is enabled for its place. Assumes nothing.
use Prim.Native.Nat.{ℕ, zero, suc}
use mathlib.Core.Path.{◌≡◌, refl, sym, ap, subst, ◌∙◌}
use mathlib.Core.Bool.{true, false}
use mathlib.Core.List.{List}
use native.Mathlib.Omega.{arith}
use lib.Dec.{ltb}
use lib.ListN.{length}
use borrow.Author.Tests.{ltb-false}
use Rattle.rules.proofs.Choices.{by_bool, by_test}
use Rattle.window.specs.Window.{lent}
use Rattle.address_rule.specs.AddressRule.{address_rule}
use Rattle.engine.specs.declared.Engine.{Engine}
use Rattle.engine.specs.Engine.{stopped, not_granted}
use Rattle.receiving.specs.Receiving.{receive_number}
use Rattle.receiving.specs.Receive as receiving
use Rattle.receiving.specs.Receive.{receive_at}
use Rattle.sending.specs.Sending.{send_number}
use Rattle.sending.specs.Send as sending
use Rattle.sending.specs.Send.{send_at}
use Rattle.enet.specs.declared.Enet.{Enet}
use Rattle.enet.specs.Frames.{of_received, receive}
use Rattle.enet.specs.Send.{of_sending, send}
use Rattle.enet.specs.Run.{run}
use Rattle.enet.proofs.Ways.{by_receive, by_send}
use Rattle.calls.specs.Calls.{Bench, receive_call, send_call, step_run, call}
use Rattle.outputs.specs.Runs.{Stand, begins, further, after, SingleSends}
use Rattle.outputs.proofs.Runs.{single_sends}
use Rattle.polling.specs.Polling.{receiver, sender, NotGrantedLeaves, AfterEight}

-- ---- an engine that runs, and what 8 leaves of it

stops : (e : Engine) → e.polling ≡ false → NotGrantedLeaves e (stopped e)
stops e t = record { runs = sym t; place = refl; polling = refl }

looks_again : (e : Engine) → e.running ≡ true → e.polling ≡ true → NotGrantedLeaves e e
looks_again e r t = record { runs = r ∙ sym t; place = refl; polling = refl }

eight_leaves : (e : Engine) → e.running ≡ true → NotGrantedLeaves e (not_granted e)
unfolding not_granted
eight_leaves e r = by_test (NotGrantedLeaves e) e.polling _ _ (looks_again e r) (stops e)

-- ---- 8 comes from an engine that runs: one that does not answers 11, 9 or 3

module _ (d : Enet) (m f : List ℕ) (off : d.registers.rx.running ≡ false) where
  receives_none : ¬ ((receive d m f).number ≡ 8)
  unfolding receive receiving.receive receive_at receive_number
  receives_none e =
      by_bool (lent d.window m)
      (λ l. let w : ◌≡◌ {A = ℕ} 3 8 = rw l at (sym now ∙ e) in omega arith)
      (λ l. let w : ◌≡◌ {A = ℕ} 11 8 = rw l at (sym now ∙ e) in omega arith)
    where
      -- a path through the projection: `rw` by it would open d wherever it stands
      now : (receive d m f).number
          ≡ (of_received d (receive_at d.base d.window d.registers false d.registers.rx.place (address_rule d.registers.filter f) m f)).number
      now = λ j.
          (of_received d (receive_at d.base d.window d.registers (off j) d.registers.rx.place (address_rule d.registers.filter f) m f)).number

module _ (d : Enet) (m out : List ℕ) (off : d.registers.tx.running ≡ false) where
  sends_none : ¬ ((send d m out).number ≡ 8)
  unfolding send sending.send send_at send_number
  sends_none e =
      by_bool (lent d.window m)
      (λ l.
      by_bool (ltb (length out) 1518)
      (λ s. let w : ◌≡◌ {A = ℕ} 9 8 = rw (l, s) at (sym now ∙ e) in omega arith)
      (λ s. let w : ◌≡◌ {A = ℕ} 3 8 = rw (l, s) at (sym now ∙ e) in omega arith))
      (λ l. let w : ◌≡◌ {A = ℕ} 11 8 = rw l at (sym now ∙ e) in omega arith)
    where
      now : (send d m out).number ≡ (of_sending d (send_at d.base d.window d.registers false d.registers.tx.place m out)).number
      now = λ j. (of_sending d (send_at d.base d.window d.registers (off j) d.registers.tx.place m out)).number

-- ---- a receive and a single send

module _ (b : Bench) where
  receive_eight : (frame : List ℕ) → (call b (receive_call frame)).number ≡ 8 → NotGrantedLeaves (receiver b) (receiver (call b (receive_call frame)).bench)
  receive_eight frame e =
      by_bool (receiver b).running
      (λ r.
      by_receive (λ o. o.number ≡ 8 → NotGrantedLeaves (receiver b) o.device.registers.rx) b.device b.memory frame
      (λ z. absurd (omega arith)) (λ z. absurd (omega arith)) (λ z. absurd (omega arith)) (λ z. absurd (omega arith)) (λ z. absurd (omega arith))
      (λ z. absurd (omega arith)) (λ _. eight_leaves (receiver b) r) (λ z. absurd (omega arith))
      e)
      (λ off. absurd (receives_none b.device b.memory frame off e))

  send_eight : (output : List ℕ) → (call b (send_call output)).number ≡ 8 → NotGrantedLeaves (sender b) (sender (call b (send_call output)).bench)
  send_eight output e =
      by_bool (sender b).running
      (λ r.
      by_send (λ s. s.number ≡ 8 → NotGrantedLeaves (sender b) s.device.registers.tx) b.device b.memory output
      (λ z. absurd (omega arith)) (λ z. absurd (omega arith)) (λ z. absurd (omega arith)) (λ z. absurd (omega arith))
      (λ _. eight_leaves (sender b) r) (λ z. absurd (omega arith)) (λ _ _ z. absurd (omega arith))
      e)
      (λ off. absurd (sends_none b.device b.memory output off e))

-- ---- a step run: its last single send is the one that met it

one_more : (k : ℕ) (s : Stand) → after (suc k) s ≡ further (after k s)
one_more zero s = refl
one_more (suc k) s = one_more k (further s)

abbrev AsPolled : Bench → Type 0
AsPolled b = (sender b).running ≡ (sender b).polling

module _ (b : Bench) (output : List ℕ) (allowance : ℕ) (e : (call b (step_run output allowance)).number ≡ 8) where
  not_over : ltb 4096 allowance ≡ true → ⊥
  unfolding run
  not_over t = let w : ◌≡◌ {A = ℕ} 10 8 = rw t at e in omega arith

  by_steps : SingleSends b output allowance (call b (step_run output allowance)) → (k : ℕ) → (call b (step_run output allowance)).steps ≡ k
      → AsPolled (call b (step_run output allowance)).bench
  by_steps g zero z = let w : ◌≡◌ {A = ℕ} 0 8 = sym (g.none z) ∙ e in absurd (omega arith)
  by_steps g (suc k) z =
      let s = after k (begins b output) in
      let r = call b (step_run output allowance) in
      let m = send_eight s.bench s.rest (g.last k (sym z) ∙ e) in
      let last : r.bench ≡ (further s).bench =
      ap (λ x. x.bench) g.gives ∙ ap (λ i. (after i (begins b output)).bench) z ∙ ap (λ x. x.bench) (one_more k (begins b output)) in
      subst AsPolled (sym last) (m.runs ∙ sym m.polling)

  run_eight : AsPolled (call b (step_run output allowance)).bench
  run_eight =
      by_bool (ltb 4096 allowance)
      (λ t. absurd (not_over t))
      (λ t. by_steps (single_sends b output allowance (ltb-false 4096 allowance t)) _ refl)

pub after_eight : AfterEight
after_eight = record { receive = receive_eight; send = send_eight; run = run_eight }
