-- Descriptors in a row by their next words: 01, "Sound ring" and "Histories"; 02, wishes 12 and 14. Each definition takes the
-- window's base and the lent memory. Assumes nothing.
use Rattle.std.specs.Prelude.{ℕ, zero, suc, ◌+◌, ◌<◌, ◌≡◌, ◌≢◌, true, false, List}
use Rattle.descriptor.specs.Descriptor.{count, next_enabled, start, next}

-- "following the next words": the descriptor k next words on from d
unfoldable pub follow : ℕ → List ℕ → ℕ → ℕ → ℕ
follow base m zero d = d
follow base m (suc k) d = follow base m k (next base m d)

-- the n bytes from a on and the k bytes from b on share no byte
abbrev pub NoneShared : ℕ → ℕ → ℕ → ℕ → Type 0
NoneShared a n b k = (i j : ℕ) → i < n → j < k → a + i ≢ b + j

-- "each apart from all others and their buffers": the descriptor c from the descriptor d and its buffer, the count's bytes
pub record Clear (base : ℕ) (m : List ℕ) (c d : ℕ) : Type 0 where
  pub descriptor : NoneShared c 16 d 16
  pub buffer : NoneShared c 16 (start base m d) (count base m d)

-- n descriptors, the first of them `first`
pub record Chain (base : ℕ) (m : List ℕ) (n first : ℕ) : Type 0 where
  pub some : 0 < n
  -- "reached from the current one by enabled next words"
  pub linked : (k : ℕ) → suc k < n → next_enabled base m (follow base m k first) ≡ true
  -- ".. distinct .. descriptors, each apart from all others and their buffers"
  pub clear : (i j : ℕ) → i < n → j < n → i ≢ j → Clear base m (follow base m i first) (follow base m j first)

-- ".. ending": its last has no next-enable
pub record Ends (base : ℕ) (m : List ℕ) (n first : ℕ) : Type 0 where
  pub chain : Chain base m n first
  pub last : (k : ℕ) → suc k ≡ n → next_enabled base m (follow base m k first) ≡ false

-- ".. or closing a ring": "that many distinct descriptors and then the first again"
pub record Closed (base : ℕ) (m : List ℕ) (n first : ℕ) : Type 0 where
  pub chain : Chain base m n first
  pub last : (k : ℕ) → suc k ≡ n → next_enabled base m (follow base m k first) ≡ true
  pub again : follow base m n first ≡ first
