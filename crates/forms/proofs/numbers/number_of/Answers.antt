-- `forms::numbers::number_of` meets its contract. The loop's invariant: what is left of the word goes on from n, which fits
-- its digits so far. Assumes nothing.
use native.Mathlib.Omega.{arith}
use mathlib.Core.Path.{sym}
use Rattle.rules.proofs.Choices.{choices}
use Rattle.forms.specs.Numbers.{number_of}
use Rattle.forms.proofs.NumberLaws.{number_more, number_stop, number_no_digit, number_end, digit_more, digit_fits, product_fits}
use Rattle.forms.proofs.numbers.number_of.Goals.{then-is_empty-via-then-is_empty, then-is_empty-via-else-is_empty+then-word-gt8}
use Rattle.forms.proofs.numbers.number_of.Goals as goal

pub returns-then-is_empty : goal.returns-then-is_empty
unfolding number_of
returns-then-is_empty c =
    elim c.then-is_empty.branch [
      | then-is_empty-via-then-is_empty w ↦ search choices
      | then-is_empty-via-else-is_empty+then-word-gt8 w ↦ search choices
    ]

pub loop-c-init : goal.loop-c-init
unfolding number_of
loop-c-init c = (omega arith, sym (search choices))

pub returns-in_err-d : goal.returns-in_err-d
returns-in_err-d c = search (number_no_digit, c.in_err-d.was)

pub returns-then-base-d : goal.returns-then-base-d
returns-then-base-d c = search (number_stop, c.in_ok-d.was)

pub overflow_mul-n : goal.overflow_mul-n
overflow_mul-n c = record { fits = search product_fits }

pub overflow_add-n : goal.overflow_add-n
overflow_add-n c = record { fits = search digit_fits }

pub loop-c-preserved : goal.loop-c-preserved
loop-c-preserved c = (search digit_more, search (number_more, c.in_ok-d.was))

pub returns : goal.returns
returns c = search number_end
