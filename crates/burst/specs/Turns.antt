-- A burst as the code goes through it: from place i on, pair by pair, each answer put into the lent list. Assumes nothing.
use Rattle.std.specs.Prelude.{ℕ, suc, List, [], ◌∷◌}
use Rattle.pair.specs.declared.Pair.{Pair}
use Rattle.pair.specs.Turn.{Bursting, turn}

unfoldable pub turns_of : Bursting → List ℕ → ℕ → List Pair → Bursting
turns_of b store i [] = b
turns_of b store i (p ∷ ps) = turns_of (turn b store i p) store (suc i) ps
