-- 02, Wish 9: "Add frames delivered, lost and sent to the device's state, each stopping at 4,294,967,295", and the count of its
-- ticks. They are no registers: no offset reads them, and of writes only that of 0 to the time-out clears the count. Assumes nothing.
use Rattle.std.specs.Prelude.{ℕ, ◌+◌, eqb, ltb}
use Rattle.std.specs.Prelude.{if◌then◌else◌}
use Rattle.counters.specs.declared.Counters.{Counters}

-- the counters, part by part
abbrev pub made : ℕ → ℕ → ℕ → ℕ → Counters
made delivered lost sent ticks = record { delivered = delivered; lost = lost; sent = sent; ticks = ticks }

-- "The reset state has all four at 0."
abbrev pub reset : Counters
reset = made 0 0 0 0

-- another count of ticks
abbrev pub with_ticks : Counters → ℕ → Counters
with_ticks c n = made c.delivered c.lost c.sent n

-- "each stopping at 4,294,967,295"
abbrev pub stop : ℕ
stop = 4294967295

-- one event more
unfoldable pub one_more : ℕ → ℕ
one_more n = if ltb n stop then n + 1 else stop

-- one frame more that is delivered, lost, sent. "a send answering 0 clears it too": the count of ticks
abbrev pub one_delivered : Counters → Counters
one_delivered c = made (one_more c.delivered) c.lost c.sent c.ticks

abbrev pub one_lost : Counters → Counters
one_lost c = made c.delivered (one_more c.lost) c.sent c.ticks

abbrev pub one_sent : Counters → Counters
one_sent c = made c.delivered c.lost (one_more c.sent) 0

-- after a receive, by its number. 01: "It is delivered if its receive answers 0, and lost if it answers 8."
abbrev pub after_receive : ℕ → Counters → Counters
after_receive n c = if eqb n 0 then one_delivered c else if eqb n 8 then one_lost c else c

-- after a single send, by its number: it sent if it answers 0. "Number 8 on receiving now also changes the lost counter": on
-- sending it counts nothing
abbrev pub after_send : ℕ → Counters → Counters
after_send n c = if eqb n 0 then one_sent c else c
