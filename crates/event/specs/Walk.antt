-- 02, Wish 4: the events of a string of bytes, one behind the other, and how it ends. Assumes nothing.
use Rattle.std.specs.Prelude.{ℕ, zero, suc, List, [], ◌∷◌, eqb, length, drop}
use Rattle.std.specs.Prelude.{if◌then◌else◌}
use Rattle.event.specs.Event.{Event, size, sizes}
use Rattle.event.specs.Front.{Front, whole, cut, no_event, front}
use Rattle.event.specs.Sizes.{begins}
use Rattle.event.specs.declared.Ending.{Ending}
use Rattle.event.specs.declared.Ending.TheVariants.{Whole, Cut, NoEvent}
use Rattle.event.specs.declared.Walked.{Walked}

-- the whole events, in order, and what is behind the last of them: nothing (`Whole`), "a cut event", or "a byte no event can
-- have there"
pub record Walk : Type 0 where
  pub events : List Event
  pub ending : Ending

abbrev pub ended : Ending → Walk
ended ending = record { events = []; ending = ending }

-- the bytes behind what stands at the front
abbrev pub behind : Front → List ℕ → List ℕ
behind (whole e) s = drop (size e) s
behind cut s = []
behind no_event s = []

-- what stands at the front, and the walk behind it
abbrev pub before : Front → Walk → Walk
before (whole e) w = record { events = e ∷ w.events; ending = w.ending }
before cut w = ended Cut
before no_event w = ended NoEvent

-- at most n events
unfoldable pub walks : ℕ → List ℕ → Walk
walks zero s = ended Whole
walks (suc n) s = if eqb (length s) 0 then ended Whole else before (front s) (walks n (behind (front s) s))

-- all of them: an event has a byte at least
abbrev pub walk : List ℕ → Walk
walk s = walks (length s) s

-- the bytes of the whole events, how many events, and the ending
abbrev pub counted : Walk → Walked
counted w = record { place = sizes w.events; events = length w.events; ending = w.ending }

-- how a string ends that begins with no whole event, by its first byte and its length
unfoldable pub ending_by : ℕ → ℕ → Ending
ending_by first left = if eqb left 0 then Whole else if begins first then Cut else NoEvent
