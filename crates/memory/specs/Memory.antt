-- Lent memory as a list of bytes: 01, "four little-endian 32-bit words", and runs of bytes.
-- A byte past the end reads 0, and a store past the end does nothing. Assumes nothing.
use Rattle.std.specs.Prelude.{ℕ, ◌+◌, ◌*◌, ◌/◌, ◌%◌, List, [], ◌∷◌, get_or}
use Rattle.std.proofs.lemmas.List.Edits.{sets}

-- the word of four bytes, the lowest first
abbrev pub word_of : ℕ → ℕ → ℕ → ℕ → ℕ
word_of a b c d = a + 256 * (b + 256 * (c + 256 * d))

-- the word at an offset
unfoldable pub word : List ℕ → ℕ → ℕ
word m at = word_of (get_or m at 0) (get_or m (at + 1) 0) (get_or m (at + 2) 0) (get_or m (at + 3) 0)

-- the four bytes of a word, the lowest first
unfoldable pub word_bytes : ℕ → List ℕ
word_bytes v = v % 256 ∷ v / 256 % 256 ∷ v / 256 / 256 % 256 ∷ v / 256 / 256 / 256 % 256 ∷ []

-- m with the bytes s stored from an offset on
unfoldable pub store : List ℕ → ℕ → List ℕ → List ℕ
store m at s = sets m at s

-- m with the word v stored at an offset
abbrev pub store_word : List ℕ → ℕ → ℕ → List ℕ
store_word m at v = store m at (word_bytes v)
