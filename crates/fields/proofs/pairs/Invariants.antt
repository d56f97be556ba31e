-- `fields::pairs` meets its contract. The loop's invariant: writing what is left gives what is asked. Assumes nothing.
use mathlib.Core.Path.{◌≡◌}
use Prim.Native.Nat.{◌-◌, ◌≤◌}
use lib.ListN.{length, drop}
use Rattle.text.specs.Text.{put}
use Rattle.fields.specs.Fields.{pairs}
use Rattle.fields.proofs.pairs.Given as goal

abbrev pub invariant-loop-b : goal.invariant-loop-b
invariant-loop-b l =
    (put l.text l.end (pairs (drop l.b-index l.s)) ≡ put l.initial.text l.initial.end (pairs l.s)) × ((l.b-index ≤ length l.s) × ((length l.text ≡ length l.initial.text) × (l.end ≤ length l.text)))

abbrev pub decreases-loop-b : goal.decreases-loop-b
decreases-loop-b l = length l.s - l.b-index
