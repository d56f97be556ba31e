use Rattle.ring.proofs.+apart_from_rest.Given as goal

abbrev pub decreases-apart_from_rest : goal.decreases-apart_from_rest
decreases-apart_from_rest l = l.left
