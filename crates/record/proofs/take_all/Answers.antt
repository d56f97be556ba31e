-- `record::take_all` ends: each turn takes a part of the input. Assumes nothing.
use Rattle.lines.proofs.Turns.{turn_less}
use Rattle.record.proofs.take_all.Goals as goal

pub loop-input-smaller : goal.loop-input-smaller
loop-input-smaller g c = search turn_less
