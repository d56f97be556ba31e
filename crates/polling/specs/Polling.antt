-- 02, Wish 5: "The bit of the word .. that led to a place, as read then, holds for it. Without it, number 8, for sending too, also
-- stops that engine; with it, it looks again." What a call that answers 8 leaves of its engine. Assumes nothing.
use Rattle.std.specs.Prelude.{ℕ, ◌≡◌, List}
use Rattle.engine.specs.declared.Engine.{Engine}
use Rattle.calls.specs.Calls.{Bench, receive_call, send_call, step_run, call}

abbrev pub receiver : Bench → Engine
receiver b = b.device.registers.rx

abbrev pub sender : Bench → Engine
sender b = b.device.registers.tx

-- an engine before and after it met a descriptor that is not granted
pub record NotGrantedLeaves (before after : Engine) : Type 0 where
  -- it runs on exactly if polling is enabled for its place
  pub runs : after.running ≡ before.polling
  -- ".. keeps its place", with the bit that holds for it
  pub place : after.place ≡ before.place
  pub polling : after.polling ≡ before.polling

pub record AfterEight : Type 0 where
  pub receive : (b : Bench) (frame : List ℕ) → (call b (receive_call frame)).number ≡ 8
      → NotGrantedLeaves (receiver b) (receiver (call b (receive_call frame)).bench)
  pub send : (b : Bench) (output : List ℕ) → (call b (send_call output)).number ≡ 8
      → NotGrantedLeaves (sender b) (sender (call b (send_call output)).bench)
  -- a step run that ends with 8: sending runs on exactly if polling is enabled for the place that the run has come to
  pub run : (b : Bench) (output : List ℕ) (allowance : ℕ) → (call b (step_run output allowance)).number ≡ 8
      → (sender (call b (step_run output allowance)).bench).running ≡ (sender (call b (step_run output allowance)).bench).polling
