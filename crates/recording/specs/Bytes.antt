-- The bytes of a recorded day: the memory image and the event list, and how a line changes them. Assumes nothing.
use Rattle.std.specs.Prelude.{ℕ, Bool, ◌&&◌, List, eqb, ltb, length}
use Rattle.std.specs.Prelude.{if◌then◌else◌}
use Rattle.memory.specs.Memory.{store}
use Rattle.window.specs.Window.{in_window, offset}
use Rattle.event.specs.Event.{send, bytes_of}
use Rattle.appending.specs.Put.{put}
use Rattle.recording.specs.declared.Day.{Day}
use Rattle.recording.specs.Day.{failed, grown, overflown}

-- ---- the image

pub record Poked : Type 0 where
  pub day : Day
  pub image : List ℕ

abbrev pub poked : Day → List ℕ → Poked
poked d m = record { day = d; image = m }

-- "a `poke` outside the window or behind the first event writes `error L`"
abbrev pub may_poke : Day → ℕ → ℕ → Bool
may_poke d address n = eqb d.events 0 && in_window d.base d.window address n

-- "any `poke` into the window, which write the image"
unfoldable pub poke : Day → List ℕ → ℕ → List ℕ → Poked
poke d m address s =
    if may_poke d address (length s) then poked d (store m (offset d.base address) s) else poked (failed d) m

-- ---- the event list

pub record Listed : Type 0 where
  pub day : Day
  pub list : List ℕ

abbrev pub listed : Day → List ℕ → Listed
listed d l = record { day = d; list = l }

-- where the next event goes: behind all of the list once one had no room, so that nothing is put into it any more
abbrev pub place : Day → ℕ → ℕ
place d room = if d.full then room else d.bytes

-- an event whose bytes end there, or, by 0, one without room: "More events than the program has room for"
unfoldable pub happened : Day → ℕ → Day
happened d end = if eqb end 0 then overflown d else grown d end

-- an event of these bytes behind the others
unfoldable pub append : Day → List ℕ → List ℕ → Listed
append d l s = let p = put l (place d (length l)) s in listed (happened d p.end) p.list

-- "`send` with a room of 1,518 or more"
unfoldable pub send_into : Day → List ℕ → ℕ → Listed
send_into d l room = if ltb room 1518 then listed (failed d) l else append d l (bytes_of send)
