-- Bytes put behind those before them, if there is room. So the lists of docs/TRACE.md and docs/CAPTURE.md are made. Assumes nothing.
use Rattle.std.specs.Prelude.{ℕ, ◌+◌, List, ltb, length}
use Rattle.std.specs.Prelude.{if◌then◌else◌}
use Rattle.memory.specs.Memory.{store}

-- where the bytes end, and the list
pub record Put : Type 0 where
  pub end : ℕ
  pub list : List ℕ

abbrev pub put_of : ℕ → List ℕ → Put
put_of end l = record { end = end; list = l }

-- bytes behind the first `at` ones of a list; 0, and the list as it was, where they have no room. The end of no bytes at the front is
-- 0 too
unfoldable pub put : List ℕ → ℕ → List ℕ → Put
put l at s = if ltb (length l) (at + length s) then put_of 0 l else put_of (at + length s) (store l at s)
