-- `block::made::put_front` meets its contract. Assumes nothing.
use native.Mathlib.Omega.{arith}
use Prim.Native.Nat.{◌≤◌}
use lib.ListN.{length}
use Rattle.block.proofs.Blocks.{part_small, front_put}
use Rattle.block.proofs.made.put_front.Goals as goal

pub overflow_add-at-3 : goal.overflow_add-at-3
overflow_add-at-3 c =
    let small : length c.part-kept.result.now ≤ 504 = part_small c.part-kept.result.now c.args.used.now 504 c.part-kept.ensures in
    omega arith

pub overflow_sub-kept : goal.overflow_sub-kept
overflow_sub-kept c =
    part_small c.part-kept.result.now c.args.used.now 504 c.part-kept.ensures

pub returns : goal.returns
returns c = search front_put
