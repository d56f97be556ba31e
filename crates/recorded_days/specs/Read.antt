-- A trace that was read of a file: docs/TRACE.md, "A trace that is longer than the program's room is refused by 23, whatever is in it."
-- Assumes nothing.
use Rattle.std.specs.Prelude.{ℕ, List, take}
use Rattle.std.specs.Prelude.{if◌then◌else◌}
use Rattle.trace.specs.Reading.{Reading, refused, reading_of, read}
use Rattle.recorded_days.specs.declared.Loaded.{Loaded}

-- of what was loaded of it, into a room
unfoldable pub read_loaded : Loaded → List ℕ → List ℕ → Reading
read_loaded l trace room = if l.more then reading_of (refused 23 0) room else read (take l.trace trace) room
