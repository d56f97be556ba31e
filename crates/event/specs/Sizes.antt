-- How many bytes the event at the front of a string has, told by its first byte, the four behind it, and how many bytes there
-- are. So it can be told of a string that does not lie in one piece. Assumes nothing.
use Rattle.std.specs.Prelude.{ℕ, ◌+◌, Bool, not, ◌&&◌, eqb, ltb, leb}
use Rattle.std.specs.Prelude.{if◌then◌else◌}
use Rattle.event.specs.Event.{size}
use Rattle.event.specs.Front.{Front, whole, cut, no_event}
use Rattle.event.specs.declared.Found.{Found}
use Rattle.event.specs.declared.Found.TheVariants.{Cut, NoEvent}

-- 0 where there is no whole event
abbrev pub size_of : Front → ℕ
size_of (whole e) = size e
size_of cut = 0
size_of no_event = 0

-- a byte that an event can begin with: 01 to 04
unfoldable pub begins : ℕ → Bool
begins first = not (eqb first 0) && leb first 4

-- n, if so many bytes are left
abbrev pub within : ℕ → ℕ → ℕ
within left n = if ltb left n then 0 else n

unfoldable pub size_by : ℕ → ℕ → ℕ → ℕ
size_by first four left =
    if eqb left 0 then 0 else
    if eqb first 1 then within left 9 else
    if eqb first 2 then within left 5 else
    if eqb first 3 then (if ltb left 5 then 0 else within left (5 + four)) else
    if eqb first 4 then 1 else
    0

-- what stands there where there is no whole event, by the first byte
unfoldable pub none_by : ℕ → Found
none_by first = if begins first then Cut else NoEvent
