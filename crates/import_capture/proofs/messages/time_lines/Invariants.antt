-- Each line is of the next eight bytes. Assumes nothing.
use Rattle.std.proofs.Common.{◌+◌, ◌-◌, ◌^◌, ◌<◌, length}
use Rattle.import_capture.proofs.messages.time_lines.Given as goal

abbrev pub invariant-loop-at : goal.invariant-loop-at
invariant-loop-at g l = length l.times + 8 < 2 ^ 64

abbrev pub decreases-loop-at : goal.decreases-loop-at
decreases-loop-at g l = length l.times - l.at
