-- The measure of the recursion.
use Rattle.pair_words.proofs.+pairs_from.Given as goal

abbrev pub decreases-pairs_from : goal.decreases-pairs_from
decreases-pairs_from l = l.left
