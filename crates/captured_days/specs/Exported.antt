-- A day's capture can be made: no frame that a day delivers or sends is refused by export. Assumes nothing.
use Rattle.std.specs.Prelude.{ℕ, ◌^◌, ◌≤◌, ◌<◌, ◌≡◌, List, length}
use Rattle.memory.specs.Memory.{store}
use Rattle.event.specs.Event.{Event}
use Rattle.calls.specs.Calls.{Bench}
use Rattle.pcap.specs.Capture.{capture_bytes}
use Rattle.pcap_list.specs.Entries.{list_bytes}
use Rattle.pcap_export.specs.Export.{first_wrong, exporting, export}
use Rattle.captured_days.specs.Captured.{captured_from}

-- none has 4 or 5, on any bench
abbrev pub FramesRight : Type 0
FramesRight = (es : List Event) (b : Bench) (output : List ℕ) (i : ℕ) → first_wrong (captured_from i b output es) ≡ 0

-- the list of a day is exported, where there is room: the file is the capture of its frames. A day has fewer than 2^32 events, so that
-- four bytes hold their times
abbrev pub DaysExported : Type 0
DaysExported =
    (es : List Event) (b : Bench) (output room : List ℕ)
    → length es < 2 ^ 32
    → let cs = captured_from 0 b output es in
    length (capture_bytes cs) ≤ length room
    → export (list_bytes cs) room
    ≡ exporting (record { number = 0; bytes = length (capture_bytes cs); frames = length cs }) (store room 0 (capture_bytes cs))
