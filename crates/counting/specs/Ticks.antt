-- 02, Wish 9: what a row of ticks does to the count, and that value 0 keeps it at 0. Assumes nothing.
use Rattle.std.specs.Prelude.{ℕ, zero, suc, ◌≤◌, ◌≡◌, ◌≢◌, true, List}
use Rattle.window.specs.Window.{lent}
use Rattle.registers.specs.Registers.{tx_to}
use Rattle.ticking.specs.Tick.{stalled}
use Rattle.enet.specs.Device.{new, raised, with_ticks}
use Rattle.calls.specs.Calls.{Bench, tick_call, call}
use Rattle.counting.specs.Events.{Lent, after}

-- so many ticks in a row
unfoldable pub ticks : ℕ → Bench → Bench
ticks zero b = b
ticks (suc k) b = ticks k (call b tick_call).bench

-- a bench whose send does not get on: the time-out is set, "sending runs and its descriptor is in the window and granted", and
-- none has been counted yet
pub record Stalls (b : Bench) : Type 0 where
  pub whole : lent b.device.window b.memory ≡ true
  pub set : b.device.registers.txtor ≢ 0
  pub stands : stalled b.device.base b.device.window b.device.registers b.memory ≡ true
  pub fresh : b.device.counters.ticks ≡ 0

-- "A tick that counts above the value sets TX_TO and starts it again at 0": v ticks in a row meet a value v, and the (v+1)th passes
-- it and fires
pub record FiresBehind : Type 0 where
  pub counts : (b : Bench) → Stalls b → (k : ℕ) → k ≤ b.device.registers.txtor
      → ticks k b ≡ record { device = with_ticks b.device k; memory = b.memory }
  pub fires : (b : Bench) → Stalls b
      → ticks (suc b.device.registers.txtor) b ≡ record { device = with_ticks (raised b.device tx_to) 0; memory = b.memory }

-- "value 0 keeps it at 0, from the write on": over every list of calls since reset
abbrev pub OffIsZero : Type 0
OffIsZero =
    (base window : ℕ) (calls : List Lent)
    → let d = after (new base window).device calls in
    d.registers.txtor ≡ 0 → d.counters.ticks ≡ 0
