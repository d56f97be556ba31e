-- A recorded day so far, and how it goes on. Assumes nothing.
use Rattle.std.specs.Prelude.{ℕ, ◌+◌, ◌-◌, ◌^◌, true, false, ltb}
use Rattle.std.specs.Prelude.{if◌then◌else◌}
use Rattle.window.specs.Window.{window_allowed}
use Rattle.recording.specs.declared.Day.{Day}

-- before the first line
abbrev pub begin : Day
begin = record { begun = false; base = 0; window = 0; bytes = 0; events = 0; lines = 0; wrong = 0; full = false }

-- one more, in a number of 64 bits; it stays at the greatest
unfoldable pub more : ℕ → ℕ
more n = if ltb n (2 ^ 64 - 1) then n + 1 else n

-- a line more
abbrev pub counted : Day → Day
counted d =
    record {
      begun = d.begun;
      base = d.base;
      window = d.window;
      bytes = d.bytes;
      events = d.events;
      lines = more d.lines;
      wrong = d.wrong;
      full = d.full;
    }

-- "writes `error L`, L the number of the first such line": this line
abbrev pub failed : Day → Day
failed d =
    record {
      begun = d.begun;
      base = d.base;
      window = d.window;
      bytes = d.bytes;
      events = d.events;
      lines = d.lines;
      wrong = d.lines;
      full = d.full;
    }

-- a window
abbrev pub opened : Day → ℕ → ℕ → Day
opened d base window =
    record {
      begun = true;
      base = base;
      window = window;
      bytes = d.bytes;
      events = d.events;
      lines = d.lines;
      wrong = d.wrong;
      full = d.full;
    }

-- an event whose bytes end there
abbrev pub grown : Day → ℕ → Day
grown d end =
    record {
      begun = d.begun;
      base = d.base;
      window = d.window;
      bytes = end;
      events = more d.events;
      lines = d.lines;
      wrong = d.wrong;
      full = d.full;
    }

-- an event without room
abbrev pub overflown : Day → Day
overflown d =
    record {
      begun = d.begun;
      base = d.base;
      window = d.window;
      bytes = d.bytes;
      events = more d.events;
      lines = d.lines;
      wrong = d.wrong;
      full = true;
    }

-- "first `new BASE LENGTH`, which must be allowed"
unfoldable pub new : Day → ℕ → ℕ → Day
new d base window = if window_allowed base window then opened d base window else failed d
