-- Where a byte is in a run of bytes. Assumes nothing.
use Rattle.std.specs.Prelude.{ℕ, ◌+◌, List, [], ◌∷◌, eqb}
use Rattle.std.specs.Prelude.{if◌then◌else◌}

-- so many bytes stand before the first one that is b, or all where there is none
abbrev pub index_of : ℕ → List ℕ → ℕ
index_of b [] = 0
index_of b (x ∷ xs) = if eqb x b then 0 else 1 + index_of b xs
