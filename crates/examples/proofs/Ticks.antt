-- A send that does not get on: its descriptor is granted, sending runs, and the time-out is 2. Two ticks are counted, and the third
-- sets TX_TO (000D0001h with the status at reset) and starts the count again. Assumes nothing.
use Rattle.std.specs.Prelude.{Some}
use mathlib.Core.Path.{◌≡◌, refl, ap}
use mathlib.Core.List.{◌++◌}
use native.Mathlib.Omega.{arith}
use lib.ListN.{replicate}
use Rattle.memory.specs.Memory.{word, word_bytes}
use Rattle.window.specs.Window.{lent, in_window}
use Rattle.address.specs.Address.{place_of, polls}
use Rattle.packet_status.specs.PacketStatus.{packet_status, granted}
use Rattle.registers.specs.declared.Register.TheVariants.{TxStart, TxTimeout}
use Rattle.registers.specs.Registers as registers
use Rattle.engine_write.specs.EngineWrite.{start_written}
use Rattle.register_write.specs.Write.{written}
use Rattle.counters.specs.Counters as counters
use Rattle.ticking.specs.Tick.{stalled}
use Rattle.enet.specs.Device.{made}
use Rattle.calls.specs.Calls.{Bench}
use Rattle.counting.specs.Ticks.{ticks, Stalls}
use Rattle.counting.proofs.Ticks.{fires_behind}

-- a window of 64 bytes from 0 on, with one descriptor at its front
abbrev bench : Bench
bench = record {
  device = made 0 64 (written (written registers.reset (Some TxTimeout) 2) (Some TxStart) 5) counters.reset;
  memory = replicate 12 0 ++ word_bytes 0x0001_0000 ++ replicate 48 0;
}

stalls : Stalls bench
unfolding lent stalled in_window granted packet_status word word_bytes start_written place_of polls
stalls = record { whole = refl; set = λ e. omega (arith, e); stands = refl; fresh = refl }

pub record TimesOut : Type 0 where
  pub two : (ticks 2 bench).device.counters.ticks ≡ 2
  pub quiet : (ticks 2 bench).device.registers.isr ≡ 0x0005_0001
  pub fires : (ticks 3 bench).device.registers.isr ≡ 0x000d_0001
  pub again : (ticks 3 bench).device.counters.ticks ≡ 0

pub times_out : TimesOut
times_out =
    let counted = fires_behind.counts bench stalls 2 (omega arith) in
    let fired = fires_behind.fires bench stalls in
    record {
      two = ap (λ (b : Bench). b.device.counters.ticks) counted;
      quiet = ap (λ (b : Bench). b.device.registers.isr) counted;
      fires = ap (λ (b : Bench). b.device.registers.isr) fired;
      again = ap (λ (b : Bench). b.device.counters.ticks) fired;
    }
