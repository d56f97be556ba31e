-- 02, Wish 9: "Below the stop, each counter equals the events in the history since reset." Assumes nothing.
use Rattle.std.specs.Prelude.{ℕ, ◌<◌, ◌≡◌, List, ltb}
use Rattle.std.specs.Prelude.{if◌then◌else◌}
use Rattle.counters.specs.declared.Counters.{Counters}
use Rattle.counters.specs.Counters.{stop}
use Rattle.enet.specs.declared.Enet.{Enet}
use Rattle.enet.specs.Device.{new}
use Rattle.calls.specs.Calls.{Bench, Call}
use Rattle.counting.specs.Events.{Lent, after, total, delivered_in, lost_in, sent_in}

-- so many events, "stopping at 4,294,967,295"
unfoldable pub up_to : ℕ → ℕ
up_to n = if ltb n stop then n else stop

-- a counter of such events, over every list of calls
pub record Counted (counter : Counters → ℕ) (events : Bench → Call → ℕ) : Type 0 where
  -- since reset, which a new bench is, allowed or not
  pub exact : (base window : ℕ) (calls : List Lent)
      → let d = (new base window).device in
      counter (after d calls).counters ≡ up_to (total events d calls)
  -- so: below the stop it is their number
  pub below : (base window : ℕ) (calls : List Lent)
      → let d = (new base window).device in
      counter (after d calls).counters < stop → counter (after d calls).counters ≡ total events d calls
  -- "each stopping": at the stop it stays there, whatever comes
  pub stays : (d : Enet) (calls : List Lent) → counter d.counters ≡ stop → counter (after d calls).counters ≡ stop

pub record EventsCounted : Type 0 where
  pub delivered : Counted (λ c. c.delivered) delivered_in
  pub lost : Counted (λ c. c.lost) lost_in
  pub sent : Counted (λ c. c.sent) sent_in
