-- What the rounds that the benchmark times share. Assumes nothing.
use Rattle.std.specs.Prelude.{ℕ, zero, suc, ◌+◌, ◌%◌, ◌^◌, List, eqb, length}
use Rattle.std.specs.Prelude.{if◌then◌else◌}
use Rattle.enet.specs.declared.Enet.{Enet}
use Rattle.enet.specs.Device.{Outcome, new}
use Rattle.enet.specs.Access.{write}

-- a bench over a window at address 0: MAC address high and low for station 02-00-00-00-00-01, and both next-descriptor registers
-- address 0, with polling
unfoldable pub waiting : ℕ → Enet
waiting window =
    let a = (new 0 window).device in
    let b = (write a 0x404 0x100).device in
    let c = (write b 0x408 2).device in
    let d = (write c 0x1c 1).device in
    (write d 0x3c 1).device

-- and both engines started
unfoldable pub bench : ℕ → Enet
bench window =
    let a = waiting window in
    let b = (write a 0x10 5).device in
    (write b 0x30 5).device

-- the window that lent memory asks for
abbrev pub window_of : List ℕ → ℕ
window_of m = length m % 2 ^ 32

-- 1 for an answer 0
unfoldable pub passed : ℕ → ℕ
passed number = if eqb number 0 then 1 else 0

-- how many frames were taken, and the memory that they leave
pub record Received : Type 0 where
  pub taken : ℕ
  pub memory : List ℕ

abbrev pub received : ℕ → List ℕ → Received
received n m = record { taken = n; memory = m }

-- rounds of a call on the device, and how many of them answered 0
unfoldable pub rounds : (Enet → List ℕ → Outcome) → ℕ → ℕ → Enet → List ℕ → Received
rounds step zero taken d m = received taken m
rounds step (suc left) taken d m =
    let o = step d m in rounds step left (taken + passed o.number) o.device o.memory
