-- `playback::play` meets its contract. The loop's invariant: the events from here on give what all of them give from the start.
-- Assumes nothing.
use mathlib.Core.Path.{refl, ◌∙◌}
use native.Mathlib.Omega.{arith}
use Rattle.playback.proofs.Turns.{playing_begins, playing_room, playing_on, playing_ends, turns_play}
use Rattle.playback.proofs.play.Goals as goal

pub loop-n-init : goal.loop-n-init
loop-n-init c = (search playing_begins, (omega arith, (refl, (refl, refl))))

pub overflow_add-place : goal.overflow_add-place
overflow_add-place c =
    let l = c.loop-n in
    let r = playing_room _ _ _ _ _ _ l.invariant.0 in
    let few = l.invariant.1.0 in
    omega arith

pub overflow_add-i : goal.overflow_add-i
overflow_add-i c =
    let l = c.loop-n in
    let r = playing_room _ _ _ _ _ _ l.invariant.0 in
    let few = l.invariant.1.0 in
    omega arith

pub loop-n-smaller : goal.loop-n-smaller
loop-n-smaller c =
    let r = playing_room _ _ _ _ _ _ c.loop-n.invariant.0 in
    omega arith

pub loop-n-preserved : goal.loop-n-preserved
loop-n-preserved c =
    let l = c.loop-n in
    let o = c.turn-last in
    let on = playing_on _ _ _ _ _ _ _ _ l.invariant.0 c.loop-n-test.true o.ensures c.size_at-n-in-loop-n.ensures in
    (on, (l.invariant.1.0, (o.auto.memory ∙ l.invariant.1.1.0, (o.auto.output ∙ l.invariant.1.1.1.0, o.auto.answers ∙ l.invariant.1.1.1.1))))

pub returns : goal.returns
returns c =
    let l = c.loop-n in
    let a = c.args in
    playing_ends _ _ _ _ _ _ l.invariant.0 c.loop-n-test.false ∙ turns_play _ _ _ a.list.now
