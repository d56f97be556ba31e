-- 02, Wish 7: "Import the same profile into frame events, times beside them, with the check sequence added. A cut header, other magics,
-- versions, link types, then, record by record, cut records and unequal lengths, then too little room are refused." Each refusal "takes
-- its own next number .. as named, is tested in that order and changes nothing" (Wish 4). Assumes nothing.
use Rattle.std.specs.Prelude.{ℕ, Bool, not, ◌||◌, List, [], ◌∷◌, ◌++◌, map, eqb, ltb, length, drop, Result, Ok, Err}
use Rattle.std.specs.Prelude.{if◌then◌else◌}
use Rattle.answer.specs.declared.Refusal.{Refusal}
use Rattle.answer.specs.Refusals.{refusal_number}
use Rattle.rules.specs.Choice.{◌otherwise◌}
use Rattle.memory.specs.Memory.{word, word_bytes, store}
use Rattle.event.specs.Event.{Event, frame, list_of}
use Rattle.pcap.specs.Capture.{Captured, magic, version, link_type}
use Rattle.pcap_records.specs.Records.{records_fault, frames_of, all_storable}
use Rattle.pcap_import.specs.declared.Imported.{Imported}

-- "A cut header, other magics, versions, link types". Zone, accuracy and snap length are "not read on import"
unfoldable pub header_fault : List ℕ → ℕ
header_fault file =
    if ltb (length file) 24 then 31 else
    if not (eqb (word file 0) magic) then 32 else
    if not (eqb (word file 4) version) then 33 else
    if not (eqb (word file 20) link_type) then 34 else
    0

-- the frames of a file, with their times
abbrev pub imported_frames : List ℕ → List Captured
imported_frames file = frames_of (drop 24 file)

-- "into frame events": their bytes
abbrev pub frame_event : Captured → Event
frame_event c = frame c.frame

unfoldable pub events_of : List Captured → List ℕ
events_of cs = list_of (map frame_event cs)

-- "times beside them": seconds and microseconds of each
unfoldable pub time_bytes : Captured → List ℕ
time_bytes c = word_bytes c.seconds ++ word_bytes c.microseconds

unfoldable pub times_of : List Captured → List ℕ
times_of [] = []
times_of (c ∷ cs) = time_bytes c ++ times_of cs

-- "too little room": in rooms of so many bytes for events and times; or in the four bytes that an event has for a frame's length
unfoldable pub too_little : List Captured → ℕ → ℕ → Bool
too_little cs events times =
    not (all_storable cs) || (ltb events (length (events_of cs)) || ltb times (length (times_of cs)))

unfoldable pub import_number : List ℕ → ℕ → ℕ → ℕ
import_number file events times =
    header_fault file otherwise
    (records_fault (drop 24 file) otherwise
    if too_little (imported_frames file) events times then 37 else
    0)

-- what import answers: 0, how many bytes the events have and how many frames there are; or the number of the refusal and zeros
pub record Answer : Type 0 where
  pub number : ℕ
  pub bytes : ℕ
  pub frames : ℕ

abbrev pub answer_of : Result Imported Refusal → Answer
answer_of (Ok i) = record { number = 0; bytes = i.bytes; frames = i.frames }
answer_of (Err refusal) = record { number = refusal_number refusal; bytes = 0; frames = 0 }

unfoldable pub look : List ℕ → ℕ → ℕ → Answer
look file events times =
    let n = import_number file events times in
    let cs = imported_frames file in
    if eqb n 0
    then record { number = 0; bytes = length (events_of cs); frames = length cs }
    else record { number = n; bytes = 0; frames = 0 }

-- what import gives: that, and both rooms, with the events and the times at their fronts
pub record Importing : Type 0 where
  pub imported : Answer
  pub events : List ℕ
  pub times : List ℕ

abbrev pub importing : Answer → List ℕ → List ℕ → Importing
importing i events times = record { imported = i; events = events; times = times }

unfoldable pub import : List ℕ → List ℕ → List ℕ → Importing
import file events times =
    let i = look file (length events) (length times) in
    let cs = imported_frames file in
    if eqb i.number 0
    then importing i (store events 0 (events_of cs)) (store times 0 (times_of cs))
    else importing i events times
