-- The loop's invariant: the turns left, of the rests of both lists, give what all of them give. Assumes nothing.
use Rattle.std.proofs.Common.{◌≡◌, length}
use Rattle.std.specs.Slice.Iter.{iter_rest}
use Rattle.pair.specs.Turn.{bursting}
use Rattle.burst.specs.Burst.{pairs_of}
use Rattle.burst.specs.Turns.{turns_of}
use Rattle.burst.proofs.each.Given as goal

abbrev pub invariant-loop-i : goal.invariant-loop-i
invariant-loop-i l =
    let pairs = l.i-iterator in
    (length l.memory ≡ length l.initial.memory)
    × ((length l.answers ≡ length l.initial.answers)
    × (turns_of (bursting l.last l.memory l.answers) l.store pairs.count (pairs_of (iter_rest pairs.iter.a) (iter_rest pairs.iter.b))
    ≡ turns_of (bursting l.initial.last l.initial.memory l.initial.answers) l.store 0 (pairs_of l.starts l.lengths)))
