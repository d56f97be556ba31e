-- The events from here on leave what all of them leave from the start. Assumes nothing.
use Rattle.std.proofs.Common.{◌-◌, ◌^◌, ◌<◌, length}
use Rattle.showing.specs.Showing.{left}
use Rattle.showing.proofs.Laws.{Showing}
use Rattle.showing.proofs.all.Given as goal

abbrev pub invariant-loop-n : goal.invariant-loop-n
invariant-loop-n g l =
    Showing (left l.initial.day l.initial.memory l.initial.output) l.events l.place l.n (left l.day l.memory l.output)
    × (length l.events < 2 ^ 64)

abbrev pub decreases-loop-n : goal.decreases-loop-n
decreases-loop-n g l = length l.events - l.place
