-- The words of a line, which stand between single spaces. Assumes nothing.
use Rattle.std.specs.Prelude.{ℕ, ◌+◌, Bool, List, [], ◌∷◌, ltb, length, take, drop}
use Prim.Native.Char.{code}
use Prim.Native.String.{String, [] as none, ◌∷◌ as ◌before◌}
use Rattle.scanning.specs.Scanning.{index_of}
use Rattle.fcs.specs.Bytes.{same}

-- the characters of a text
abbrev pub characters : String → List ℕ
characters none = []
characters (c before s) = code c ∷ characters s

-- a word is this one
unfoldable pub is : List ℕ → List ℕ → Bool
is word name = same word name

-- another word follows the first: there is a space
unfoldable pub spaced : List ℕ → Bool
spaced s = ltb (index_of 32 s) (length s)

-- what stands before the first space
unfoldable pub first : List ℕ → List ℕ
first s = take (index_of 32 s) s

-- what follows the first space
unfoldable pub rest : List ℕ → List ℕ
rest s = drop (index_of 32 s + 1) s
