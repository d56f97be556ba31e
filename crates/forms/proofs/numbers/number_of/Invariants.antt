-- `forms::numbers::number_of` meets its contract. The loop's invariant: what is left of the word goes on from n, which fits
-- its digits so far. Assumes nothing.
use mathlib.Core.Path.{◌≡◌}
use Prim.Native.Nat.{◌^◌, ◌<◌}
use lib.ListN.{drop}
use Rattle.forms.specs.Numbers.{number_of, number_from}
use Rattle.forms.proofs.numbers.number_of.Given as goal

abbrev pub invariant-loop-c : goal.invariant-loop-c
invariant-loop-c l = (l.n < 16 ^ l.c-index) × (number_of l.base l.word ≡ number_from l.base l.n (drop l.c-index l.word))
