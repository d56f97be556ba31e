-- 02, Wish 1: "Demand 3 counts the frames inside: a burst stands in its list as one receive for each pair inside the store, a
-- refused burst as none." Assumes nothing.
use Rattle.std.specs.Prelude.{ℕ, List, [], ◌∷◌, length}
use Rattle.std.specs.Prelude.{if◌then◌else◌}
use Rattle.pair.specs.declared.Pair.{Pair}
use Rattle.pair.specs.Pair.{passes, bytes_of}
use Rattle.burst.specs.Burst.{refuses, pairs_of, uneven}

-- the pairs that a burst takes: "a refused burst .. none"
unfoldable pub taken : List ℕ → List ℕ → List ℕ → List Pair
taken ss ns a =
    if uneven ss ns then [] else
    if refuses (length (pairs_of ss ns)) (length a) then [] else
    pairs_of ss ns

-- the frames of the pairs inside the store, in order
unfoldable pub frames_inside : List ℕ → List Pair → List (List ℕ)
frames_inside store [] = []
frames_inside store (p ∷ ps) = if passes store p then frames_inside store ps else bytes_of store p ∷ frames_inside store ps

-- of an answer for each pair, the answers of those inside
unfoldable pub answers_inside : List ℕ → List Pair → List ℕ → List ℕ
answers_inside store [] answers = []
answers_inside store (p ∷ ps) [] = []
answers_inside store (p ∷ ps) (n ∷ answers) =
    if passes store p then answers_inside store ps answers else n ∷ answers_inside store ps answers
