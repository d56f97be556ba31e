-- One frame under the invariant: it keeps it, and is delivered exactly if it passes and a grant is left. Assumes nothing.
use Prim.Native.Nat.{ℕ, ◌+◌, ◌<◌}
use mathlib.Core.Path.{◌≡◌, refl, ap}
use mathlib.Core.Logic.{◌↔◌}
use mathlib.Core.Bool.{Bool, ◌&&◌}
use mathlib.Core.List.{List}
use native.Mathlib.Omega.{arith}
use native.Mathlib.Numerals.{add-one}
use native.Mathlib.Decide.{ℕ_discrete, dec_lt}
use lib.Dec.{eqb, ltb}
use lib.ListN.{length}
use borrow.Author.Tests.{lt-ltb, le-ltb, ne_eqb}
use Rattle.std.specs.Prelude.{if◌then◌else◌}
use Rattle.reason.proofs.Laws.{status_fits, status_returned}
use Rattle.frame.proofs.Passed.{passed_short}
use Rattle.enet.specs.Device.{Outcome}
use Rattle.calls.specs.Calls.{Bench, receive_call, call}
use Rattle.steps.specs.Steps.{counted, brings}
use Rattle.steps.proofs.Places.{RingSound}
use Rattle.steps.proofs.Held.{held_deliver}
use Rattle.steps.proofs.Invariant.{Inv, keeps}
use Rattle.steps.proofs.Now.{status_of, device_after, memory_after, turned_away_lem, lost_now, taken_now}
use Rattle.steps.proofs.Same.{same_but_interrupts, same_ring}

module _ (passes : List ℕ → Bool) where
  -- v were delivered and g grants made; now f comes
  abbrev pub tick : ℕ → ℕ → List ℕ → ℕ
  tick v g f = if passes f && ltb v g then v + 1 else v

-- a frame passes by the registers of b
abbrev pub passes : Bench → List ℕ → Bool
passes b f = eqb (brings b f) 0

module _ (b : Bench) (n first : ℕ) (sound : RingSound b n first) where
  -- what holds at a bench where v frames were delivered
  abbrev pub InvB : Bench → List ℕ → ℕ → Type 0
  InvB c gs v = Inv b n first sound c.device c.memory gs v

  -- ---- one frame

  module _ (c : Bench) (gs : List ℕ) (v : ℕ) (i : InvB c gs v) (f : List ℕ) where
    delivers : brings b f ≡ 0 → v < length gs → Inv b n first sound (device_after b first c.device v) (memory_after b first c.memory v f) gs (v + 1)
    unfolding device_after memory_after
    delivers pass left =
        let short = passed_short _ f pass in
        let held =
        held_deliver b n first sound c.memory v (length gs) f (status_of b f) i.held left short
        (status_fits _ (length f) (omega arith)) (status_returned _ (length f) (omega arith)) in
        let x = i.fixed in
        rw add-one (record {
          fixed = record {
            base = x.base;
            window = x.window;
            filter = x.filter;
            receiving = x.receiving;
            polling = refl;
            sending = x.sending;
          };
          place = refl;
          held = held;
          named = i.named;
        })

    -- it keeps the invariant, and is delivered exactly if it passes and a grant is left
    pub record Came : Type 0 where
      pub came : InvB (call c (receive_call f)).bench gs (counted v (call c (receive_call f)).number)
      pub count : counted v (call c (receive_call f)).number ≡ tick (passes b) v (length gs) f

    comes_by : Dec (brings b f ≡ 0) → Dec (v < length gs) → Came
    comes_by (no h) k =
        let r = turned_away_lem i f h in
        let q = ne_eqb (brings b f) 0 h in
        record { came = rw (r, q) i; count = rw (r, q) }
    comes_by (yes h) (no k) =
        let o = i.held.order in
        let r = lost_now i f h (omega arith) in
        let lost = keeps (same_but_interrupts c.device _ _ _) (same_ring b n first sound c.memory) i in
        record { came = rw r lost; count = rw (r, h, le-ltb v (length gs) (omega arith)) }
    comes_by (yes h) (yes k) =
        let r = taken_now i f h k in
        record { came = rw r (delivers h k); count = rw (r, h, lt-ltb v (length gs) k) }

    pub comes : Came
    comes = comes_by (ℕ_discrete (brings b f) 0) (dec_lt v (length gs))

    lost_if : brings b f ≡ 0 → (call c (receive_call f)).number ≡ 8 → Dec (v < length gs) → v ≡ length gs
    lost_if pass a (yes k) = let w : ◌≡◌ {A = ℕ} 0 8 = rw (taken_now i f pass k) at a in absurd (omega arith)
    lost_if pass a (no k) = let o = i.held.order in omega arith

    pub lost : brings b f ≡ 0 → ((call c (receive_call f)).number ≡ 8) ↔ (v ≡ length gs)
    lost pass = (λ a. lost_if pass a (dec_lt v (length gs)), λ e. ap (λ (o : Outcome). o.number) (lost_now i f pass e))

    pub otherwise : brings b f ≡ 0 → ¬ (v ≡ length gs) → (call c (receive_call f)).number ≡ 0
    otherwise pass ne = let o = i.held.order in ap (λ (o : Outcome). o.number) (taken_now i f pass (omega arith))
