-- 02, Wish 9: the tick, of the device over lent memory. It reads the memory and writes none. Assumes nothing.
use Rattle.std.specs.Prelude.{ℕ, List}
use Rattle.ticking.specs.declared.Ticked.{Ticked}
use Rattle.ticking.specs.Tick as plain
use Rattle.enet.specs.declared.Enet.{Enet}
use Rattle.enet.specs.declared.Answered.{Answered}
use Rattle.enet.specs.Device.{with_registers, with_ticks}

-- a tick leaves the window's base and length and the counters of frames as they are
abbrev pub of_ticked : Enet → Ticked → Answered
of_ticked d t = record { number = t.number; device = with_ticks (with_registers d t.registers) t.count }

unfoldable pub tick : Enet → List ℕ → Answered
tick d m = of_ticked d (plain.tick d.base d.window d.registers d.counters.ticks m)
