-- The pairs of a burst in a line, START LENGTH START LENGTH .. behind BYTES. Assumes nothing.
use Rattle.std.specs.Prelude.{ℕ, zero, suc, ◌+◌, not, List, [], ◌∷◌}
use Rattle.std.specs.Prelude.{Option, Some, None, is_some, unwrap_or}
use Rattle.std.specs.Prelude.{if◌then◌else◌}
use Rattle.words.specs.Words.{spaced, first, rest}
use Rattle.forms.specs.Numbers.{decimal}
use Rattle.forms.specs.Pairs.{byte_count}

-- the first word as a START or a LENGTH, "1 to 8 decimal digits": no limit of its own
unfoldable pub first_number : List ℕ → Option ℕ
first_number s = decimal (first s) 99_999_999

-- how many pairs there are, where n came before and so many more may come. "No call is: .. a START without its LENGTH": a word
-- that is not there has no digits
unfoldable pub pairs_from : ℕ → ℕ → List ℕ → Option ℕ
pairs_from zero n s = None
pairs_from (suc left) n s =
    if not (is_some (first_number s)) then None else
    if not (is_some (first_number (rest s))) then None else
    if not (spaced (rest s)) then Some (n + 1) else
    pairs_from left (n + 1) (rest (rest s))

-- how many stand behind BYTES, which have to be right: "of 0 to 66 pairs"
unfoldable pub pairs_behind : List ℕ → Option ℕ
pairs_behind words =
    if not (is_some (byte_count (first words))) then None else
    if not (spaced words) then Some 0 else
    pairs_from 66 0 (rest words)

-- the numbers of n words, every other one from the first on: each START, or each LENGTH. 0 for a wrong one, which nobody asks for
unfoldable pub every_other : ℕ → List ℕ → List ℕ
every_other zero s = []
every_other (suc n) s = unwrap_or (first_number s) 0 ∷ every_other n (rest (rest s))
