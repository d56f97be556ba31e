-- Every public call on the bench, as one type, and what each gives, by its own definition. The claims about all calls (crates
-- inputs, outputs, changes, counting, numbers, refusals, polling, history and marks) are about this function. Making a new bench is
-- no call on one. Assumes nothing.
use Rattle.std.specs.Prelude.{ℕ, List, [], ◌∷◌}
use Rattle.enet.specs.declared.Enet.{Enet}
use Rattle.enet.specs.declared.Answered.{Answered}
use Rattle.enet.specs.Device.{Outcome}
use Rattle.enet.specs.Access.{write}
use Rattle.enet.specs.Frames.{grant, receive}
use Rattle.enet.specs.Send.{Sending, send}
use Rattle.enet.specs.Run.{Running, run}
use Rattle.enet.specs.Tick.{tick}
use Rattle.pair.specs.declared.Pair.{Pair}
use Rattle.pair.specs.Turn.{Bursting}
use Rattle.burst.specs.Burst.{burst_of}
use Rattle.burst.specs.Taken.{taken, answers_inside}
use Rattle.calls.specs.Looks.{Look, Seen, sees}

-- the device, and the memory that the caller lends it
pub record Bench : Type 0 where
  pub device : Enet
  pub memory : List ℕ

pub data Call : Type 0 where
  looks : Look → Call
  register_write : (offset value : ℕ) → Call
  grant_call : (address : ℕ) → Call
  receive_call : (frame : List ℕ) → Call
  -- a burst of the pairs of two lists. A burst over a list of pairs is the one over its starts and its lengths (`burst_apart`
  -- in `burst`)
  burst_call : (store starts lengths answers : List ℕ) → Call
  send_call : (output : List ℕ) → Call
  step_run : (output : List ℕ) (allowance : ℕ) → Call
  -- 02, Wish 9
  tick_call : Call

-- what a call gives: its number (0 where it has none), the bench that it leaves, a value (that a look sees, or how many bytes
-- were sent), the steps of a step run, bytes (the output of a send, or what a look sees), the answers of its receives, in
-- order, and the answer list that a burst leaves
pub record Result : Type 0 where
  pub number : ℕ
  pub bench : Bench
  pub value : ℕ
  pub steps : ℕ
  pub bytes : List ℕ
  pub answers : List ℕ
  pub list : List ℕ

-- a number, and the bench
abbrev pub answered : ℕ → Bench → Result
answered n b = record { number = n; bench = b; value = 0; steps = 0; bytes = []; answers = []; list = [] }

abbrev pub of_look : Bench → Seen → Result
of_look b s = record { number = s.number; bench = b; value = s.value; steps = 0; bytes = s.bytes; answers = []; list = [] }

-- a register access lends no memory, and a tick writes none
abbrev pub of_answered : Bench → Answered → Result
of_answered b a = answered a.number (record { device = a.device; memory = b.memory })

abbrev pub of_grant : Outcome → Result
of_grant o = answered o.number (record { device = o.device; memory = o.memory })

abbrev pub of_receive : Outcome → Result
of_receive o = record {
  number = o.number;
  bench = record { device = o.device; memory = o.memory };
  value = 0;
  steps = 0;
  bytes = [];
  answers = o.number ∷ [];
  list = [];
}

-- a pair outside the store is no receive
abbrev pub of_burst : List ℕ → List Pair → Bursting → Result
of_burst store pairs r = record {
  number = r.number;
  bench = record { device = r.device; memory = r.memory };
  value = 0;
  steps = 0;
  bytes = [];
  answers = answers_inside store pairs r.answers;
  list = r.answers;
}

abbrev pub of_sending : Sending → Result
of_sending s = record {
  number = s.number;
  bench = record { device = s.device; memory = s.memory };
  value = s.count;
  steps = 0;
  bytes = s.output;
  answers = [];
  list = [];
}

abbrev pub of_running : Running → Result
of_running r = record {
  number = r.number;
  bench = record { device = r.device; memory = r.memory };
  value = r.count;
  steps = r.steps;
  bytes = r.output;
  answers = [];
  list = [];
}

abbrev pub call : Bench → Call → Result
call b (looks look) = of_look b (sees b.device b.memory look)
call b (register_write offset value) = of_answered b (write b.device offset value)
call b (grant_call address) = of_grant (grant b.device b.memory address)
call b (receive_call frame) = of_receive (receive b.device b.memory frame)
call b (burst_call store starts lengths answers) =
    of_burst store (taken starts lengths answers) (burst_of b.device b.memory store starts lengths answers)
call b (send_call output) = of_sending (send b.device b.memory output)
call b (step_run output allowance) = of_running (run b.device b.memory output allowance)
call b tick_call = of_answered b (tick b.device b.memory)
