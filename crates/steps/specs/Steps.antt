-- 01, "Histories": the steps of a list, and what a list of them has done so far. Assumes nothing.
use Rattle.std.specs.Prelude.{ℕ, ◌+◌, ◌≤◌, ◌<◌, List, [], ◌∷◌, ◌++◌, eqb, length}
use Rattle.std.specs.Prelude.{if◌then◌else◌}
use Rattle.memory.specs.Memory.{store}
use Rattle.frame.specs.Frame.{frame_number}
use Rattle.calls.specs.Calls.{Bench, Call, Result, answered, call}
use Rattle.calls.specs.Handed.{handed}

-- "A step is a public call on the bench .. or a write by the firmware of any values to window bytes": bytes in a row, from
-- an offset into the window on. "Making a new bench is no step."
pub data Step : Type 0 where
  public_call : Call → Step
  firmware_write : (at : ℕ) (bytes : List ℕ) → Step

-- what a step gives, and the bench that it leaves
abbrev pub step : Bench → Step → Result
step b (public_call c) = call b c
step b (firmware_write at bytes) = answered 0 (record { device = b.device; memory = store b.memory at bytes })

-- ---- what a step does

-- "Refused grant calls and register writes may have any arguments": of what a call is handed it does all if it answers 0, and
-- nothing if it is refused
abbrev pub done : List ℕ → ℕ → List ℕ
done [] n = []
done (x ∷ xs) n = if eqb n 0 then x ∷ xs else []

-- "A grant is a grant call that answers 0": the descriptors that a step with the answer n grants
abbrev pub grants_of : Step → ℕ → List ℕ
grants_of (public_call c) n = done (handed c).grants n
grants_of (firmware_write at bytes) n = []

-- the registers that it writes
abbrev pub registers_of : Step → ℕ → List ℕ
registers_of (public_call c) n = done (handed c).registers n
registers_of (firmware_write at bytes) n = []

-- the firmware writes the byte at i
abbrev pub Writes : Step → ℕ → Type 0
Writes (public_call c) i = ⊥
Writes (firmware_write at bytes) i = (at ≤ i) × (i < at + length bytes)

-- the frames that a step brings, "in order, refused ones too". 02, Wish 1: "a burst stands in its list as one receive for each
-- pair inside the store, a refused burst as none"
abbrev pub frames_of : Step → List (List ℕ)
frames_of (public_call c) = (handed c).frames
frames_of (firmware_write at bytes) = []

-- what "its receive answers", for each of these frames
abbrev pub answers_of : Bench → Step → List ℕ
answers_of b s = (step b s).answers

-- the first of 4, 5 and 6 that a frame's bytes and the registers of a bench bring, or 0
abbrev pub brings : Bench → List ℕ → ℕ
brings b frame = frame_number b.device.registers.filter frame

-- ---- how many frames were delivered

-- "It is delivered if its receive answers 0": v were delivered before a receive that answers n
abbrev pub counted : ℕ → ℕ → ℕ
counted v n = if eqb n 0 then v + 1 else v

-- "receive by receive, in order": the count after the last of these receives ..
abbrev pub counted_all : ℕ → List ℕ → ℕ
counted_all v [] = v
counted_all v (n ∷ answers) = counted_all (counted v n) answers

-- .. and after each
abbrev pub counted_each : ℕ → List ℕ → List ℕ
counted_each v [] = []
counted_each v (n ∷ answers) = counted v n ∷ counted_each (counted v n) answers

-- ---- a list of steps

-- what a list has done so far: the bench that it left, the descriptors that it granted, in order, and how many frames were
-- delivered
pub record Progress : Type 0 where
  pub bench : Bench
  pub grants : List ℕ
  pub delivered : ℕ

-- "nothing granted yet"
abbrev pub begin : Bench → Progress
begin b = record { bench = b; grants = []; delivered = 0 }

abbrev pub after_step : Progress → Step → Progress
after_step p s = record {
  bench = (step p.bench s).bench;
  grants = p.grants ++ grants_of s (step p.bench s).number;
  delivered = counted_all p.delivered (answers_of p.bench s);
}

-- a step "takes the state and memory that the step before left"
unfoldable pub after_steps : Progress → List Step → Progress
after_steps p [] = p
after_steps p (s ∷ steps) = after_steps (after_step p s) steps
