use native.Mathlib.Omega.{arith}
use Rattle.stream.proofs.Laws.{copying_fits, copying_begins, copying_on, copying_ends}
use Rattle.stream.proofs.copy.Goals as goal

pub loop-k-init : goal.loop-k-init
loop-k-init c = search copying_begins

pub overflow_add-bytes : goal.overflow_add-bytes
overflow_add-bytes c =
    let fits = copying_fits _ _ _ _ _ _ _ c.loop-k.invariant c.loop-k-test.true c.block_count-blocks.ensures c.copy_block-bytes.ensures.0 in
    omega arith

pub loop-k-preserved : goal.loop-k-preserved
loop-k-preserved c = search copying_on

pub returns : goal.returns
returns c = search copying_ends
