-- `block::sums::four` meets its contract. Assumes nothing.
use Prim.Native.Nat.{◌+◌, ◌*◌, ◌≤◌}
use native.Mathlib.Omega.{arith}
use Rattle.block.proofs.Weights.{four_is, product_small}
use Rattle.block.proofs.sums.four.Reads as reads
use Rattle.block.proofs.sums.four.Lts as lts
use Rattle.block.proofs.sums.four.Goals as goal

small : (c : lts.Start reads.Pre reads.Post) → (c.args.a + c.args.b + c.args.c + c.args.d) * c.args.weight ≤ 129540
small c = product_small (c.args.a + c.args.b + c.args.c + c.args.d) c.args.weight (omega arith) c.requires

pub overflow_mul-result : goal.overflow_mul-result
overflow_mul-result c = omega (arith, small c)

pub overflow_add-result : goal.overflow_add-result
overflow_add-result c = omega (arith, small c)

pub returns : goal.returns
returns c =
    let p = small c in
    (four_is c.args.a c.args.b c.args.c c.args.d c.args.weight, omega arith)
