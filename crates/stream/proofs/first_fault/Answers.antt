use mathlib.Core.Path.{refl}
use Rattle.stream.proofs.Laws.{testing_begins, testing_on, testing_stops, testing_ends}
use Rattle.stream.proofs.first_fault.Goals as goal

pub loop-k-init : goal.loop-k-init
loop-k-init c = search testing_begins

pub returns-in-Err : goal.returns-in-Err
returns-in-Err c =
    testing_stops _ _ _ _ c.block_count-blocks.ensures c.loop-k.invariant c.loop-k-test.true c.in-Err.ensures

pub loop-k-preserved : goal.loop-k-preserved
loop-k-preserved c = testing_on _ _ _ 0 c.loop-k.invariant c.loop-k-test.true c.in_default.ensures refl

pub returns : goal.returns
returns c = search testing_ends
