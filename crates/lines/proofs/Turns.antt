-- A loop over the input ends: each turn takes a part. Assumes nothing.
use Prim.Native.Nat.{ℕ, ◌-◌, ◌≤◌, ◌<◌}
use mathlib.Core.Path.{◌≡◌, refl, ap, ◌∙◌}
use mathlib.Core.List.{List}
use native.Mathlib.Omega.{arith}
use lib.Dec.{eqb, ltb}
use lib.ListN.{length}
use Rattle.std.specs.Prelude.{if◌then◌else◌, is_some}
use Rattle.rules.proofs.Choices.{by_test}
use Rattle.lines.specs.declared.Input.{Input}
use Rattle.lines.specs.Taking.{Taken, left, before_feed, taken, take}
use Rattle.lines.specs.Reading.{over, refilled, read, More}

part_counted : (i : Input) (chunk line : List ℕ) → (take i chunk line).input.parts ≡ i.parts - 1
unfolding take
part_counted i chunk line =
    by_test (λ (r : Input). r.parts ≡ i.parts - 1) (ltb (before_feed (left i chunk)) (length (left i chunk))) _ _ (λ e. refl) (λ e. refl)

read_gives_none : (i : Input) (n : ℕ) → (read i n).parts ≤ i.parts
unfolding read
read_gives_none i n = by_test (λ (r : Input). r.parts ≤ i.parts) (eqb n 0) (over i) (refilled i n) (λ e. omega arith) (λ e. omega arith)

pub turn_less : (i j k : Input) (chunk chunk' line line' : List ℕ) → 0 < i.parts → taken j line' ≡ take i chunk line → More j k chunk chunk'
    → k.parts < i.parts
turn_less i j k chunk chunk' line line' h e m =
    let p : j.parts ≡ i.parts - 1 = ap (λ (x : Taken). x.input.parts) e ∙ part_counted i chunk line in
    let q : k.parts ≡ (if is_some j.ended then j else read j k.to).parts = ap (λ (x : Input). x.parts) m.next in
    let l : (if is_some j.ended then j else read j k.to).parts ≤ j.parts = by_test (λ (x : Input). x.parts ≤ j.parts) (is_some j.ended) j (read j k.to) (λ e. omega arith) (λ e. read_gives_none j k.to) in
    omega arith
