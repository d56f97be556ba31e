-- `trace_writing::blocks::put_rest` meets its contract. The loop's invariant: the blocks up to the next one are put. Assumes nothing.
use Rattle.trace_writing.proofs.Putting.{putting_begins, putting_on, putting_ends}
use Rattle.trace_writing.proofs.blocks.put_rest.Goals as goal

pub loop-k-init : goal.loop-k-init
loop-k-init c = search putting_begins

pub loop-k-preserved : goal.loop-k-preserved
loop-k-preserved c =
    putting_on _ _ _ _ _ _ _ c.loop-k.invariant c.loop-k-test.true c.part.ensures c.put.ensures

pub returns : goal.returns
returns c = search putting_ends
