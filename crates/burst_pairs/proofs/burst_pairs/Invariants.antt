-- The loop's invariant: the turns left, from here, give what all of them give. Assumes nothing.
use Rattle.std.proofs.Common.{◌≡◌, drop}
use Rattle.pair.specs.Turn.{bursting}
use Rattle.burst.specs.Turns.{turns_of}
use Rattle.burst_pairs.proofs.burst_pairs.Given as goal

abbrev pub invariant-loop-i : goal.invariant-loop-i
invariant-loop-i l =
    turns_of (bursting l.last l.memory l.answers) l.store l.i (drop l.i l.pairs)
    ≡ turns_of (bursting l.initial.last l.initial.memory l.initial.answers) l.store 0 l.pairs
