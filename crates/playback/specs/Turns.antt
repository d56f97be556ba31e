-- A list of events as the code goes through it: from place i of the answers on, event by event. Assumes nothing.
use Rattle.std.specs.Prelude.{ℕ, suc, List, [], ◌∷◌, set}
use Rattle.event.specs.Event.{Event}
use Rattle.event.specs.declared.Found.{Found}
use Rattle.playback.specs.Playing.{Acting, Played, act, act_as}

-- what an event gave: its answer at place i, and the bench and the output for the next
abbrev pub behind : Played → ℕ → Acting → Played
behind p i a = record { answers = set p.answers i a.number; bench = a.bench; output = a.output }

-- the turn of what the code found in a list of bytes
unfoldable pub turn : Played → ℕ → List ℕ → Found → Played
turn p i list found = behind p i (act_as p.bench p.output list found)

unfoldable pub turns_of : Played → ℕ → List Event → Played
turns_of p i [] = p
turns_of p i (e ∷ es) = turns_of (behind p i (act p.bench p.output e)) (suc i) es
