-- The recursion `sends`: the measure is the number of steps left. Assumes nothing.
use native.Mathlib.Omega.{arith}
use borrow.Author.Rules.{rules}
use Rattle.enet.proofs.RunLaws.{sent_fits, ran_steps, both_fit, run_on_rest}
use Rattle.enet.proofs.Enet.+sends.Goals as goal

pub slice_bounds-sends-count : goal.slice_bounds-sends-count
slice_bounds-sends-count t c = sent_fits _ _ _ _ _ _ c.send-s.ensures

pub slice_bounds-sends-start : goal.slice_bounds-sends-start
slice_bounds-sends-start t c = let h = sent_fits _ _ _ _ _ _ c.send-s.ensures in search rules

pub behind-requires : goal.behind-requires
behind-requires t c = (
  omega (arith, ran_steps _ _ _ _ _ _ _ c.sends.ensures),
  omega (arith, both_fit _ _ _ _ _ _ _ _ _ _ _ _ c.send-s.ensures c.sends.ensures, c.send-s.auto.output),
)

pub returns : goal.returns
returns t c = run_on_rest _ _ _ _ _ _ _ _ _ _ _ c.if-left-eq0.false c.send-s.ensures c.if-s-ne-DONE.false c.sends.ensures c.behind.ensures
