use native.Mathlib.Omega.{arith}
use Rattle.trace.proofs.Bytes.{last_fits, used_fits, end_is}
use Rattle.trace.proofs.end_of.Goals as goal

pub overflow_sub-result : goal.overflow_sub-result
overflow_sub-result c = c.requires.1.0

pub overflow_mul-result : goal.overflow_mul-result
overflow_mul-result c =
    let fits = last_fits _ _ c.requires in
    omega arith

pub overflow_sub-good : goal.overflow_sub-good
overflow_sub-good c = c.requires.1.0

pub overflow_add-result : goal.overflow_add-result
overflow_add-result c =
    let fits = last_fits _ _ c.requires in
    let used = used_fits _ _ c.requires _ _ c.block_at.ensures c.used.ensures in
    omega arith

pub returns : goal.returns
returns c = end_is _ _ c.requires _ _ c.block_at.ensures c.used.ensures
