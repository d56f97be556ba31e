-- What a call is handed, by kind: where a claim asks for the frames, the grants, the register, the output or the answer list of
-- any call, it reads it here. Assumes nothing.
use Rattle.std.specs.Prelude.{ℕ, List, [], ◌∷◌}
use Rattle.burst.specs.Taken.{taken, frames_inside}
use Rattle.calls.specs.Calls.{Call, looks, register_write, grant_call, receive_call, burst_call, send_call, step_run, tick_call}

pub record Handed : Type 0 where
  -- the registers that it writes, if it is not refused
  pub registers : List ℕ
  -- the descriptors that it grants, if it is not refused
  pub grants : List ℕ
  -- the frames that it receives, in order
  pub frames : List (List ℕ)
  -- the output that it is lent
  pub output : List ℕ
  -- the answer list that it is lent
  pub list : List ℕ

abbrev pub none : Handed
none = record { registers = []; grants = []; frames = []; output = []; list = [] }

abbrev pub a_register : ℕ → Handed
a_register offset = record { registers = offset ∷ []; grants = []; frames = []; output = []; list = [] }

abbrev pub a_grant : ℕ → Handed
a_grant address = record { registers = []; grants = address ∷ []; frames = []; output = []; list = [] }

-- frames, and the answer list of a burst
abbrev pub the_frames : List (List ℕ) → List ℕ → Handed
the_frames frames list = record { registers = []; grants = []; frames = frames; output = []; list = list }

abbrev pub an_output : List ℕ → Handed
an_output output = record { registers = []; grants = []; frames = []; output = output; list = [] }

abbrev pub handed : Call → Handed
handed (looks look) = none
handed (register_write offset value) = a_register offset
handed (grant_call address) = a_grant address
handed (receive_call frame) = the_frames (frame ∷ []) []
-- 02: "a burst stands in its list as one receive for each pair inside the store, a refused burst as none"
handed (burst_call store starts lengths answers) = the_frames (frames_inside store (taken starts lengths answers)) answers
handed (send_call output) = an_output output
handed (step_run output allowance) = an_output output
handed tick_call = none
