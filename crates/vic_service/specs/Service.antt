-- 02, Wish 8: the requests in service. Each has the rank that it was taken at, 0 to 63, those of the second controller from 32 on; a
-- list has true at the ranks that are in service. Assumes nothing.
use Rattle.std.specs.Prelude.{ℕ, Bool, true, false, List, set, replicate}
use Rattle.first_where.specs.First.{first_where}

-- nothing is in service
abbrev pub idle : List Bool
idle = replicate 64 false

-- "takes the answer into service at its level then"
abbrev pub taken : List Bool → ℕ → List Bool
taken s rank = set s rank true

-- "ends" one
abbrev pub ended : List Bool → ℕ → List Bool
ended s rank = set s rank false

-- the last taken: the lowest rank in service, since a request is taken only above all in service (theorem `last_taken` of crate
-- vic_nesting); their number, 64, where none is in service
abbrev pub last_taken : List Bool → ℕ
last_taken s = first_where (λ b. b) s
