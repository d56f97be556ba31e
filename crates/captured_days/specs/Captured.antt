-- The frames of a recorded day that a capture of it has (docs/CAPTURE.md, "export_capture"). Assumes nothing.
use Rattle.std.specs.Prelude.{ℕ, suc, List, [], ◌∷◌, ◌++◌, eqb, take}
use Rattle.std.specs.Prelude.{if◌then◌else◌}
use Rattle.event.specs.Event.{Event, register_write, grant, frame, send}
use Rattle.calls.specs.Calls.{Bench}
use Rattle.playback.specs.Playing.{Acting, act}
use Rattle.pcap.specs.Capture.{Captured}
use Rattle.capturing.specs.Capturing.{timed}

-- the frame of event i, if its call answered 0
abbrev pub if_done : ℕ → ℕ → List ℕ → List Captured
if_done number i f = if eqb number 0 then timed i f ∷ [] else []

-- "the frames that were delivered and the frames that were sent"
abbrev pub captured_of : ℕ → Event → Acting → List Captured
captured_of i (frame bytes) a = if_done a.number i bytes
captured_of i send a = if_done a.number i (take a.count a.output)
captured_of i (register_write offset value) a = []
captured_of i (grant address) a = []

-- "in the order of the events": those of a list of events from number i on
unfoldable pub captured_from : ℕ → Bench → List ℕ → List Event → List Captured
captured_from i b output [] = []
captured_from i b output (e ∷ es) =
    let a = act b output e in
    captured_of i e a ++ captured_from (suc i) a.bench a.output es
