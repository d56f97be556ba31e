-- Demand 2: "memory changes nowhere else". For each call the bytes that its rule names. Assumes nothing.
use Rattle.std.specs.Prelude.{ℕ, zero, suc, ◌+◌, ◌≤◌, ◌<◌, ◌≡◌, ◌⊎◌, List, [], ◌∷◌, ◌++◌, eqb, length, get_or}
use Rattle.std.specs.Prelude.{if◌then◌else◌}
use Rattle.window.specs.Window.{offset}
use Rattle.descriptor.specs.Descriptor.{start}
use Rattle.calls.specs.Calls.{Bench, Call, looks, register_write, grant_call, receive_call, burst_call, send_call, step_run, tick_call, call}
use Rattle.calls.specs.Handed.{handed}
use Rattle.outputs.specs.Runs.{Stand, begins, single, further}

-- so many bytes of the lent memory, from an offset on
pub record Region : Type 0 where
  pub from : ℕ
  pub size : ℕ

-- the packet status word of the descriptor at an address
abbrev pub status_word : Bench → ℕ → Region
status_word b address = record { from = offset b.device.base address + 12; size = 4 }

-- "the whole frame, check sequence included, from the start address on"
abbrev pub frame_bytes : Bench → List ℕ → Region
frame_bytes b frame = record {
  from = offset b.device.base (start b.device.base b.memory b.device.registers.rx.place);
  size = length frame;
}

-- "A delivery writes the whole frame .. then the packet status word"
abbrev pub delivery : Bench → List ℕ → List Region
delivery b frame = frame_bytes b frame ∷ status_word b b.device.registers.rx.place ∷ []

-- of single receives one behind the other: what each delivery writes, as the receive before it left the bench
unfoldable pub deliveries : Bench → List (List ℕ) → List Region
deliveries b [] = []
deliveries b (frame ∷ frames) =
    let r = call b (receive_call frame) in
    (if eqb r.number 0 then delivery b frame else []) ++ deliveries r.bench frames

-- the packet status words of the descriptors that a run's next k single sends sent
abbrev pub sent_words : ℕ → Stand → List Region
sent_words zero s = []
sent_words (suc k) s =
    if eqb (single s).number 0
    then status_word s.bench s.bench.device.registers.tx.place ∷ sent_words k (further s)
    else []

-- where a call may write
abbrev pub regions : Bench → Call → List Region
regions b (looks look) = []
regions b (register_write address value) = []
-- "Granting a receive descriptor writes its packet status word .. No other byte changes."
regions b (grant_call address) = status_word b address ∷ []
-- "A delivery writes the whole frame .. then the packet status word .. Buffer bytes past the frame stay."
regions b (receive_call frame) = delivery b frame
-- 02, Wish 1: "State, window and answers equal those of single receives"
regions b (burst_call store starts lengths answers) = deliveries b (handed (burst_call store starts lengths answers)).frames
-- "It marks the descriptor returned"
regions b (send_call output) = status_word b b.device.registers.tx.place ∷ []
regions b (step_run output allowance) = sent_words (call b (step_run output allowance)).steps (begins b output)
regions b tick_call = []

-- the byte at an offset lies in none of these
abbrev pub Outside : ℕ → List Region → Type 0
Outside j [] = Unit
Outside j (r ∷ rs) = ((j < r.from) ⊎ (r.from + r.size ≤ j)) × Outside j rs

-- memory of the same length, with the same bytes outside these regions
pub record SameOutside (rs : List Region) (before now : List ℕ) : Type 0 where
  pub size : length now ≡ length before
  pub bytes : (j : ℕ) → Outside j rs → get_or now j 0 ≡ get_or before j 0
