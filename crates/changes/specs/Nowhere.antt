-- Demand 2: ".. and memory changes nowhere else": the statement, with the output and the device. Assumes nothing.
use Rattle.std.specs.Prelude.{ℕ, ◌≡◌, ◌≢◌, List, length}
use Rattle.enet.specs.declared.Enet.{Enet}
use Rattle.enet.specs.Access.{read}
use Rattle.calls.specs.Calls.{Bench, Call, register_write, receive_call, burst_call, send_call, step_run, tick_call, call}
use Rattle.outputs.specs.Outputs.{FrontOnly, FrameSize}
use Rattle.changes.specs.Regions.{regions, SameOutside}
use Rattle.changes.specs.Parts.{PartsKept, Clears, receive_bits, send_bits, tick_bits, StatusRaised}

-- what a call leaves as it was
pub record Kept (b : Bench) (c : Call) : Type 0 where
  pub memory : SameOutside (regions b c) b.memory (call b c).bench.memory
  -- a refusal changes no byte; of a step run this is said of the single send that was refused
  pub refused : (call b c).number ≢ 0 → (call b c).steps ≡ 0 → (call b c).bench.memory ≡ b.memory
  pub device : PartsKept c b.device (call b c).bench.device

pub record NowhereElse : Type 0 where
  pub calls : (b : Bench) (c : Call) → Kept b c
  -- a look leaves the bench by its definition; of a register read, the device that it gives back is the one that it took
  pub register_read : (d : Enet) (offset : ℕ) → (read d offset).device ≡ d
  pub send_output : (b : Bench) (output : List ℕ) → FrontOnly output (call b (send_call output))
  pub send_size : (b : Bench) (output : List ℕ) → (call b (send_call output)).number ≡ 0 → FrameSize (call b (send_call output)).value
  pub run_output : (b : Bench) (output : List ℕ) (allowance : ℕ) → FrontOnly output (call b (step_run output allowance))
  pub receive_status : (b : Bench) (frame : List ℕ) → StatusRaised receive_bits b (receive_call frame)
  pub burst_status : (b : Bench) (store starts lengths answers : List ℕ)
      → StatusRaised receive_bits b (burst_call store starts lengths answers)
  -- "Answers go into a lent list of numbers", one for each pair: the list keeps its length, refused or not
  pub burst_list : (b : Bench) (store starts lengths answers : List ℕ)
      → length (call b (burst_call store starts lengths answers)).list ≡ length answers
  pub send_status : (b : Bench) (output : List ℕ) → StatusRaised send_bits b (send_call output)
  pub run_status : (b : Bench) (output : List ℕ) (allowance : ℕ) → StatusRaised send_bits b (step_run output allowance)
  pub tick_status : (b : Bench) → StatusRaised tick_bits b tick_call
  pub write_status : (b : Bench) (offset value : ℕ)
      → Clears b.device.registers.isr (call b (register_write offset value)).bench.device.registers.isr
