use mathlib.Core.Path.{refl, ◌∙◌}
use native.Mathlib.Nat.{add-zero}
use native.Mathlib.Omega.{arith}
use lib.ListN.{length-set}
use Rattle.memory.proofs.Laws.{sets_turn, all_stored, store_out}
use Rattle.memory.proofs.store.Goals as goal

pub returns-then-m-at : goal.returns-then-m-at
returns-then-m-at c = search store_out

pub loop-i-init : goal.loop-i-init
loop-i-init c = (refl, rw add-zero)

pub loop-i-preserved : goal.loop-i-preserved
loop-i-preserved c =
    let l = c.loop-i in
    let a = c.args in
    let e = sets_turn l.m a.s.now a.at l.i (omega arith) in
    (simp length-set l.invariant.0, e ∙ l.invariant.1)

pub returns : goal.returns
returns c = search all_stored
