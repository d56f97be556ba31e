-- 02, Wish 9: "the events in the history since reset", of every list of calls. Assumes nothing.
use Rattle.std.specs.Prelude.{ℕ, zero, suc, ◌+◌, List, [], ◌∷◌, eqb}
use Rattle.std.specs.Prelude.{if◌then◌else◌}
use Rattle.enet.specs.declared.Enet.{Enet}
use Rattle.calls.specs.Calls.{Bench, Call, looks, register_write, grant_call, receive_call, burst_call, send_call, step_run, tick_call, call}
use Rattle.outputs.specs.Runs.{Stand, begins, single, further}

-- ---- a history

-- a call and the memory that it is lent: any, of any length, whatever the calls before it left
pub record Lent : Type 0 where
  pub memory : List ℕ
  pub call : Call

-- the bench that it meets, where the calls before it left this device
abbrev pub meets : Enet → Lent → Bench
meets d l = record { device = d; memory = l.memory }

-- the device that it leaves
abbrev pub next : Enet → Lent → Enet
next d l = (call (meets d l) l.call).bench.device

-- calls one behind the other
unfoldable pub after : Enet → List Lent → Enet
after d [] = d
after d (l ∷ ls) = after (next d l) ls

-- ---- the events of a call

-- how often a number stands among these answers
unfoldable pub times : ℕ → List ℕ → ℕ
times n [] = 0
times n (x ∷ xs) = if eqb x n then 1 + times n xs else times n xs

-- 01: "It is delivered if its receive answers 0, and lost if it answers 8." The answers of a call's receives, those of a burst too,
-- stand in its result
abbrev pub delivered_in : Bench → Call → ℕ
delivered_in b c = times 0 (call b c).answers

abbrev pub lost_in : Bench → Call → ℕ
lost_in b c = times 8 (call b c).answers

-- what the next k single sends of a run answer
unfoldable pub send_answers : ℕ → Stand → List ℕ
send_answers zero s = []
send_answers (suc k) s = (single s).number ∷ send_answers k (further s)

-- the answers of a call's single sends: of a step run, those of the steps that it makes
abbrev pub sends_of : Bench → Call → List ℕ
sends_of b (looks look) = []
sends_of b (register_write offset value) = []
sends_of b (grant_call address) = []
sends_of b (receive_call frame) = []
sends_of b (burst_call store starts lengths answers) = []
sends_of b (send_call output) = (call b (send_call output)).number ∷ []
sends_of b (step_run output allowance) = send_answers (call b (step_run output allowance)).steps (begins b output)
sends_of b tick_call = []

-- a single send sent its frame if it answers 0
abbrev pub sent_in : Bench → Call → ℕ
sent_in b c = times 0 (sends_of b c)

-- ---- the events of a history

-- so many of all its calls, one behind the other
unfoldable pub total : (Bench → Call → ℕ) → Enet → List Lent → ℕ
total events d [] = 0
total events d (l ∷ ls) = events (meets d l) l.call + total events (next d l) ls
