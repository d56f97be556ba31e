-- 01, "Window and descriptor" and "A frame in": grant and receive, of the device over lent memory. Assumes nothing.
use Rattle.std.specs.Prelude.{ℕ, List}
use Rattle.granting.specs.Granting as granting
use Rattle.granting.specs.Granting.{Granted}
use Rattle.receiving.specs.Receive as receiving
use Rattle.receiving.specs.Receive.{Received}
use Rattle.counters.specs.Counters.{after_receive}
use Rattle.enet.specs.declared.Enet.{Enet}
use Rattle.enet.specs.Device.{after, Outcome, leaves}

-- a grant leaves the device as it is
abbrev pub of_granted : Enet → Granted → Outcome
of_granted d g = leaves g.number d g.memory

unfoldable pub grant : Enet → List ℕ → ℕ → Outcome
grant d m address = of_granted d (granting.grant d.base d.window m address)

-- a receive leaves the window's base and length as they are, and is counted by its number (02, Wish 9)
abbrev pub of_received : Enet → Received → Outcome
of_received d o = leaves o.number (after d o.registers (after_receive o.number d.counters)) o.memory

unfoldable pub receive : Enet → List ℕ → List ℕ → Outcome
receive d m f = of_received d (receiving.receive d.base d.window d.registers m f)
