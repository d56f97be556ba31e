-- `list_reports::numbers` meets its contract. The loop's invariant: writing what is left gives what is asked. Assumes nothing.
use mathlib.Core.Path.{◌≡◌}
use Prim.Native.Nat.{◌-◌, ◌≤◌}
use lib.ListN.{length, drop}
use Rattle.text.specs.Text.{put}
use Rattle.fields.specs.Fields.{each, number}
use Rattle.list_reports.proofs.numbers.Given as goal

abbrev pub invariant-loop-n : goal.invariant-loop-n
invariant-loop-n l =
    (put l.text l.end (each number (drop l.n-index l.s)) ≡ put l.initial.text l.initial.end (each number l.s)) × ((l.n-index ≤ length l.s) × ((length l.text ≡ length l.initial.text) × (l.end ≤ length l.text)))

abbrev pub decreases-loop-n : goal.decreases-loop-n
decreases-loop-n l = length l.s - l.n-index
