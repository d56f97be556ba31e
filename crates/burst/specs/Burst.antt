-- 02, Wish 1, "A burst in one call": "a call that takes one lent store of bytes and a lent list of start and length pairs, at
-- most 64, and receives them in order. Answers go into a lent list of numbers." Assumes nothing.
use Rattle.std.specs.Prelude.{ℕ, Bool, not, ◌||◌, List, [], ◌∷◌, eqb, ltb, length}
use Rattle.std.specs.Prelude.{if◌then◌else◌}
use Rattle.enet.specs.declared.Enet.{Enet}
use Rattle.pair.specs.declared.Pair.{Pair}
use Rattle.pair.specs.Pair.{pair, received}
use Rattle.pair.specs.Turn.{Bursting}

-- "receives them in order": "State, window and answers equal those of single receives", one behind the other, each of which
-- meets what the one before it left. "otherwise the call answers 0"
unfoldable pub receives : Enet → List ℕ → List ℕ → List Pair → Bursting
receives d m store [] = record { number = 0; device = d; memory = m; answers = [] }
receives d m store (p ∷ ps) =
    let o = received d m store p in
    let r = receives o.device o.memory store ps in
    record { number = 0; device = r.device; memory = r.memory; answers = o.number ∷ r.answers }

-- "more than 64 pairs, or an answer list of another length than the pair list": so many pairs, and so many answers
unfoldable pub refuses : ℕ → ℕ → Bool
refuses pairs answers = ltb 64 pairs || not (eqb answers pairs)

-- ".. refuses the whole call with 16, changing nothing"
abbrev pub refused : Enet → List ℕ → List ℕ → Bursting
refused d m a = record { number = 16; device = d; memory = m; answers = a }

unfoldable pub burst : Enet → List ℕ → List ℕ → List Pair → List ℕ → Bursting
burst d m store ps a = if refuses (length ps) (length a) then refused d m a else receives d m store ps

-- ---- the pair list as two lists of numbers, its starts and its lengths

unfoldable pub pairs_of : List ℕ → List ℕ → List Pair
pairs_of [] ns = []
pairs_of (s ∷ ss) [] = []
pairs_of (s ∷ ss) (n ∷ ns) = pair s n ∷ pairs_of ss ns

-- two lists of different lengths are no pair list
unfoldable pub uneven : List ℕ → List ℕ → Bool
uneven ss ns = not (eqb (length ns) (length ss))

-- and the call is refused in the same way
unfoldable pub burst_of : Enet → List ℕ → List ℕ → List ℕ → List ℕ → List ℕ → Bursting
burst_of d m store ss ns a = if uneven ss ns then refused d m a else burst d m store (pairs_of ss ns) a
