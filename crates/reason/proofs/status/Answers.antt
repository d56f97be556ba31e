-- `reason::status` meets its contract. Assumes nothing.
use borrow.Author.Rules.{rules}
use Rattle.reason.specs.Reason.{reason_number}
use Rattle.reason.proofs.Laws.{bits_fit, status_sum}
use Rattle.reason.proofs.status.Goals as goal

pub overflow_add-result : goal.overflow_add-result
overflow_add-result c = let small = bits_fit (reason_number c.args.reason) _ c.bits.ensures in search rules

pub returns : goal.returns
returns c = search status_sum
