-- `forms::pairs::all_digits` meets its contract. The loop's invariant: what is left decides. Assumes nothing.
use mathlib.Core.Path.{◌≡◌}
use lib.ListN.{drop}
use Rattle.forms.specs.Pairs.{all_digits}
use Rattle.forms.proofs.pairs.all_digits.Given as goal

abbrev pub invariant-loop-c : goal.invariant-loop-c
invariant-loop-c l = all_digits l.word ≡ all_digits (drop l.c-index l.word)
