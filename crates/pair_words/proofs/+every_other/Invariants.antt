-- The measure of the recursion.
use Rattle.pair_words.proofs.+every_other.Given as goal

abbrev pub decreases-every_other : goal.decreases-every_other
decreases-every_other l = l.n
