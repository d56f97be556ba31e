-- The lowest rank of all sixteen inputs. Assumes nothing.
use Prim.Native.Nat.{ℕ, zero, suc, ◌≤◌}
use mathlib.Core.Path.{◌≡◌, ap, ◌∙◌}
use mathlib.Core.List.{List}
use native.Mathlib.Omega.{arith}
use Rattle.rules.specs.Bit.{bit}
use Rattle.rules.proofs.Choices.{by_bool}
use Rattle.vic_rank.specs.Rank.{lowest_among, lowest_rank}

-- a loop that has passed no fewer than sixteen inputs, and no more
pub all_sixteen : (cs : List ℕ) (s n low : ℕ) → n ≤ 16 → 16 ≤ n → low ≡ lowest_among cs s n → low ≡ lowest_rank cs s
all_sixteen cs s n low h g e = let k : n ≡ 16 = omega arith in e ∙ ap (lowest_among cs s) k

-- a controller has 32 ranks
pub lowest_within : (cs : List ℕ) (s n : ℕ) → lowest_among cs s n ≤ 32
unfolding lowest_among
lowest_within cs s zero = omega arith
lowest_within cs s (suc n) =
    let h = lowest_within cs s n in by_bool (bit n s) (λ e. rw e (omega arith)) (λ e. rw e h)
