-- 02, Wish 7: "An exported file imports to the same frames and times"; and a file that is imported is, byte for byte, what is exported of
-- what it gave, where what is not read of its header is as export makes it, and its frames may be exported. Assumes nothing.
use Rattle.std.specs.Prelude.{ℕ, ◌≤◌, ◌≡◌, true, List, [], ◌∷◌, map, length, take, drop}
use Rattle.memory.specs.Memory.{word, store}
use Rattle.fcs.specs.CheckSequence.{check_right}
use Rattle.block_forms.specs.Forms.{Bytes}
use Rattle.event.specs.Walk.{walk}
use Rattle.event.specs.declared.Ending.TheVariants.{Whole}
use Rattle.pcap.specs.Capture.{Captured, zone, accuracy, snap_length, message, capture_bytes}
use Rattle.pcap_list.specs.Entries.{list_bytes, entries_of}
use Rattle.pcap_export.specs.Export.{export_number, exporting, export}
use Rattle.pcap_records.specs.Records.{frames_of}
use Rattle.pcap_import.specs.Import.{imported_frames, frame_event, events_of, times_of, import_number, importing, import}

-- ---- "An exported file imports to the same frames and times"

-- what import gives of a file that is made of frames
pub record Back (cs : List Captured) (file : List ℕ) : Type 0 where
  pub frames : imported_frames file ≡ cs
  -- in rooms that are long enough
  pub imports :
      (events times : List ℕ)
      → length (events_of cs) ≤ length events
      → length (times_of cs) ≤ length times
      → import file events times
      ≡ importing (record { number = 0; bytes = length (events_of cs); frames = length cs }) (store events 0 (events_of cs)) (store times 0 (times_of cs))

-- of each list of bytes that export does not refuse
abbrev pub RoundTrip : Type 0
RoundTrip =
    (list : List ℕ) (room : ℕ)
    → Bytes list
    → export_number list room ≡ 0
    → Back (entries_of list) (capture_bytes (entries_of list))

-- and so of the file that export put at the front of a room
abbrev pub ExportedImports : Type 0
ExportedImports =
    (list room : List ℕ)
    → Bytes list
    → let e = export list room in
    e.exported.number ≡ 0
    → Back (entries_of list) (take e.exported.bytes e.room)

-- ---- one form

-- frames of 60 to 1,514 bytes without their check sequence
abbrev pub Sized : List Captured → Type 0
Sized [] = Unit
Sized (c ∷ cs) = ((60 ≤ length (message c.frame)) × (length (message c.frame) ≤ 1514)) × Sized cs

-- what a file is that is imported
pub record Formed (file : List ℕ) : Type 0 where
  -- byte for byte what is made of its frames and times
  pub only : file ≡ capture_bytes (imported_frames file)
  -- and what export makes of them
  pub exports :
      (room : List ℕ)
      → length file ≤ length room
      → export (list_bytes (imported_frames file)) room
      ≡ exporting (record { number = 0; bytes = length file; frames = length (imported_frames file) }) (store room 0 file)

abbrev pub OneForm : Type 0
OneForm =
    (file : List ℕ) (events times : ℕ)
    → Bytes file
    → import_number file events times ≡ 0
    → word file 8 ≡ zone
    → word file 12 ≡ accuracy
    → word file 16 ≡ snap_length
    → Sized (imported_frames file)
    → Formed file

-- ---- what import adds and gives

abbrev pub AllChecked : List Captured → Type 0
AllChecked [] = Unit
AllChecked (c ∷ cs) = (check_right c.frame ≡ true) × AllChecked cs

-- the check sequence of each frame is right, whatever the file
abbrev pub ChecksRight : Type 0
ChecksRight = (s : List ℕ) → AllChecked (frames_of s)

-- bytes that tell the times of frames: seconds and microseconds of each, and nothing behind the last
abbrev pub Tells : List ℕ → List Captured → Type 0
Tells s [] = s ≡ []
Tells s (c ∷ cs) = (word s 0 ≡ c.seconds) × (word s 4 ≡ c.microseconds) × Tells (drop 8 s) cs

-- those that import gives tell the times of the frames
abbrev pub TimesTold : Type 0
TimesTold = (s : List ℕ) → Bytes s → Tells (times_of (frames_of s)) (frames_of s)

-- the events are frame events and nothing else
abbrev pub FrameEvents : Type 0
FrameEvents =
    (file : List ℕ) (events times : ℕ)
    → Bytes file
    → import_number file events times ≡ 0
    → walk (events_of (imported_frames file)) ≡ record { events = map frame_event (imported_frames file); ending = Whole }
