use Rattle.std.proofs.Common.{◌≡◌}
use Rattle.vic_rank.specs.Rank.{lowest_among}
use Rattle.vic_rank.proofs.lowest_rank.Given as goal

abbrev pub invariant-loop-input : goal.invariant-loop-input
invariant-loop-input l = l.lowest ≡ lowest_among l.controls l.status l.input
