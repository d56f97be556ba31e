use mathlib.Core.Path.{◌∙◌}
use native.Mathlib.Omega.{arith}
use Rattle.memory.proofs.Laws.{store_out, word_stored, word_moved}
use Rattle.memory.proofs.store_word.Goals as goal

pub returns-then-m-at : goal.returns-then-m-at
returns-then-m-at c = search store_out

pub returns-after-loop-i : goal.returns-after-loop-i
returns-after-loop-i c = word_stored _ _ _ _ _ c.loop-i.i c.to_le_bytes-bytes.ensures (omega arith) c.loop-i.invariant.1

pub returns-else-m-at-lt4 : goal.returns-else-m-at-lt4
returns-else-m-at-lt4 c = word_moved _ _ _ _ (omega arith) (c.copy_from_slice.ensures.after ∙ c.to_le_bytes-bytes.ensures)
