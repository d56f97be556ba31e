-- The counters equal the events of every history since reset. Assumes nothing.
use Prim.Native.Nat.{ℕ}
use mathlib.Core.Path.{◌≡◌, refl, ap, ◌∙◌}
use mathlib.Core.List.{List, [], ◌∷◌}
use native.Mathlib.Omega.{arith}
use Rattle.counters.specs.declared.Counters.{Counters}
use Rattle.counters.specs.Counters.{reset}
use Rattle.enet.specs.declared.Enet.{Enet}
use Rattle.enet.specs.Device.{new}
use Rattle.calls.specs.Calls.{Bench, Call}
use Rattle.changes.proofs.Branches.{by_new}
use Rattle.counting.specs.Events.{Lent, meets, next, after, total, delivered_in, lost_in, sent_in}
use Rattle.counting.specs.Counted.{up_to, Counted, EventsCounted}
use Rattle.counting.proofs.More.{more, more_since, more_stays, not_stopped}
use Rattle.counting.proofs.Adds.{Adds, adds_none, adds_both}
use Rattle.counting.proofs.Calls.{call_adds}

-- all calls of a history
calls_add : (calls : List Lent) (d : Enet)
    → Adds (total delivered_in d calls) (total lost_in d calls) (total sent_in d calls) d.counters (after d calls).counters
unfolding after total
calls_add [] d = adds_none _ _ refl refl refl
calls_add (l ∷ ls) d = adds_both (call_adds (meets d l) l.call) (calls_add ls (next d l))

-- "The reset state has all four at 0."
pub new_counters : (base window : ℕ) → (new base window).device.counters ≡ reset
new_counters base window = by_new (λ a. a.device.counters ≡ reset) base window refl refl

module _ (counter : Counters → ℕ) (events : Bench → Call → ℕ)
    (adds : (calls : List Lent) (d : Enet) → counter (after d calls).counters ≡ more (total events d calls) (counter d.counters))
    (zero : counter reset ≡ 0) where
  exact : (base window : ℕ) (calls : List Lent)
      → let d = (new base window).device in counter (after d calls).counters ≡ up_to (total events d calls)
  exact base window calls =
      let d = (new base window).device in
      adds calls d
      ∙ ap (more (total events d calls)) (ap counter (new_counters base window) ∙ zero)
      ∙ more_since (total events d calls)

  counted : Counted counter events
  counted = record {
    exact = exact;
    below = λ base window calls h.
        let e = exact base window calls in
        e ∙ not_stopped _ (omega (arith, h, e));
    stays = λ d calls e. adds calls d ∙ more_stays (total events d calls) (counter d.counters) e;
  }

pub events_counted : EventsCounted
events_counted = record {
  delivered = counted (λ c. c.delivered) delivered_in (λ calls d. (calls_add calls d).delivered') refl;
  lost = counted (λ c. c.lost) lost_in (λ calls d. (calls_add calls d).lost') refl;
  sent = counted (λ c. c.sent) sent_in (λ calls d. (calls_add calls d).sent') refl;
}
