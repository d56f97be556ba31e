-- `block::sums::check` meets its contract: the four quarters are bytes 0 to 507. Assumes nothing.
use native.Mathlib.Omega.{arith}
use Rattle.block.proofs.Blocks.{part_long}
use Rattle.block.proofs.Weights.{check_is}
use Rattle.block.proofs.sums.check.Goals as goal

pub weigh-sum-requires : goal.weigh-sum-requires
weigh-sum-requires c =
    let b = c.args.block.now in (
      part_long c.part.result.now b 0 127 c.part.ensures (omega arith),
      (
        part_long c.part-2.result.now b 127 127 c.part-2.ensures (omega arith),
        (
          part_long c.part-3.result.now b 254 127 c.part-3.ensures (omega arith),
          part_long c.part-4.result.now b 381 127 c.part-4.ensures (omega arith),
        ),
      ),
    )

pub returns : goal.returns
returns c =
    check_is _ _ _ _ _ _ c.requires c.part.ensures c.part-2.ensures c.part-3.ensures c.part-4.ensures c.weigh-sum.ensures
