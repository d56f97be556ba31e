use Rattle.ring.proofs.+ring_from.Given as goal

abbrev pub decreases-ring_from : goal.decreases-ring_from
decreases-ring_from l = l.left
