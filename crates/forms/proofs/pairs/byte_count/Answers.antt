-- `forms::pairs::byte_count` meets its contract. Assumes nothing.
use Rattle.rules.proofs.Choices.{choices}
use Rattle.forms.specs.Pairs.{byte_count}
use Rattle.forms.proofs.pairs.byte_count.Goals.{
  then-is_empty-via-then-is_empty,
  then-is_empty-via-else-is_empty+then-word-gt4096,
  then-is_empty-via-else-is_empty+else-word-gt4096+then-word-eq1,
  then-is_empty-via-else-is_empty+else-word-gt4096+else-word-eq1+then-not-all_digits,
}
use Rattle.forms.proofs.pairs.byte_count.Goals as goal

pub returns-then-is : goal.returns-then-is
unfolding byte_count
returns-then-is c = search choices depth 9

pub returns-then-is_empty : goal.returns-then-is_empty
unfolding byte_count
returns-then-is_empty c =
    elim c.then-is_empty.branch [
      | then-is_empty-via-then-is_empty w ↦ search choices depth 9
      | then-is_empty-via-else-is_empty+then-word-gt4096 w ↦ search choices depth 9
      | then-is_empty-via-else-is_empty+else-word-gt4096+then-word-eq1 w ↦ search choices depth 9
      | then-is_empty-via-else-is_empty+else-word-gt4096+else-word-eq1+then-not-all_digits w ↦ search choices depth 9
    ]

pub returns : goal.returns
unfolding byte_count
returns c = search choices depth 9
