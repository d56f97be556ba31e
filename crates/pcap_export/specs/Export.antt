-- 02, Wish 7: "Export takes whole frames, refuses a list not of its form in docs/, answers 4 or 5 for the first wrong one, and refuses
-- too little room." Each refusal "takes its own next number .. as named, is tested in that order and changes nothing" (Wish 4).
-- Assumes nothing.
use Rattle.std.specs.Prelude.{ℕ, not, List, [], ◌∷◌, eqb, ltb, length, Result, Ok, Err}
use Rattle.std.specs.Prelude.{if◌then◌else◌}
use Rattle.answer.specs.declared.Refusal.{Refusal}
use Rattle.answer.specs.Refusals.{refusal_number}
use Rattle.rules.specs.Choice.{◌otherwise◌}
use Rattle.memory.specs.Memory.{store}
use Rattle.fcs.specs.CheckSequence.{check_right}
use Rattle.frame.specs.Length.{length_allowed}
use Rattle.pcap.specs.Capture.{Captured, capture_bytes}
use Rattle.pcap_list.specs.Entries.{entries_of, of_its_form}
use Rattle.pcap_export.specs.declared.Exported.{Exported}

-- row 4: "frame under 64 or over 1,518 bytes", row 5: "frame check sequence wrong": the first that is met, or 0
unfoldable pub frame_fault : List ℕ → ℕ
frame_fault frame =
    if not (length_allowed (length frame)) then 4 else
    if not (check_right frame) then 5 else
    0

-- "4 or 5 for the first wrong one"
unfoldable pub first_wrong : List Captured → ℕ
first_wrong [] = 0
first_wrong (c ∷ cs) = frame_fault c.frame otherwise first_wrong cs

-- into a room of so many bytes
unfoldable pub export_number : List ℕ → ℕ → ℕ
export_number list room =
    if not (of_its_form list) then 29 else
    (first_wrong (entries_of list) otherwise
    if ltb room (length (capture_bytes (entries_of list))) then 30 else
    0)

-- what export answers: 0, how many bytes the capture has and how many frames; or the number of the refusal and zeros
pub record Answer : Type 0 where
  pub number : ℕ
  pub bytes : ℕ
  pub frames : ℕ

abbrev pub answer_of : Result Exported Refusal → Answer
answer_of (Ok e) = record { number = 0; bytes = e.bytes; frames = e.frames }
answer_of (Err refusal) = record { number = refusal_number refusal; bytes = 0; frames = 0 }

-- what export gives: that, and the room, with the capture at its front
pub record Exporting : Type 0 where
  pub exported : Answer
  pub room : List ℕ

abbrev pub exporting : Answer → List ℕ → Exporting
exporting e room = record { exported = e; room = room }

unfoldable pub export : List ℕ → List ℕ → Exporting
export list room =
    let n = export_number list (length room) in
    let capture = capture_bytes (entries_of list) in
    if eqb n 0
    then exporting (record { number = 0; bytes = length capture; frames = length (entries_of list) }) (store room 0 capture)
    else exporting (record { number = n; bytes = 0; frames = 0 }) room
