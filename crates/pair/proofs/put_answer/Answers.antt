-- `pair::put_answer` meets its contract: past the list's end nothing is put. Assumes nothing.
use mathlib.Core.Path.{sym}
use lib.Seq.{set_out}
use Rattle.pair.proofs.put_answer.Goals as goal

pub returns-else-i-answers : goal.returns-else-i-answers
returns-else-i-answers c = sym (set_out _ _ _ c.if-i-answers.false)
