-- 01, "A frame out": what a single send and a step run leave of the output. Assumes nothing.
use Rattle.std.specs.Prelude.{ℕ, ◌≤◌, ◌≡◌, List, length, get_or}
use Rattle.calls.specs.Calls.{Result}

-- ".. at the front of the output, leaves the output's rest and returns their number"
pub record FrontOnly (output : List ℕ) (r : Result) : Type 0 where
  pub fits : r.value ≤ length output
  pub size : length r.bytes ≡ length output
  pub rest : (j : ℕ) → r.value ≤ j → get_or r.bytes j 0 ≡ get_or output j 0

-- "puts 64 to 1,518 bytes"
pub record FrameSize (n : ℕ) : Type 0 where
  pub least : 64 ≤ n
  pub most : n ≤ 1518
