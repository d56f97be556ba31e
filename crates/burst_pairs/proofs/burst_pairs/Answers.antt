-- `burst_pairs::burst_pairs` meets its contract, by the turns of its loop. Assumes nothing.
use Rattle.std.proofs.Common.{sym, ◌∙◌, arith}
use Rattle.burst_pairs.proofs.Laws.{walk_turn, walk_end, walk_refused, walk_is}
use Rattle.burst_pairs.proofs.burst_pairs.Goals as goal

pub returns-then-refuses : goal.returns-then-refuses
returns-then-refuses c = search walk_refused

pub loop-i-preserved : goal.loop-i-preserved
loop-i-preserved c =
    let a = c.args in
    walk_turn _ _ a.store.now a.pairs.now c.loop-i.i _ (omega arith) c.turn-last.ensures ∙ c.loop-i.invariant

pub returns : goal.returns
returns c =
    let a = c.args in
    sym (walk_end _ a.store.now a.pairs.now c.loop-i.i (omega arith))
    ∙ c.loop-i.invariant
    ∙ walk_is a.device a.memory.now a.store.now a.pairs.now a.answers.now _ c.refuses.ensures c.if-refuses.false
