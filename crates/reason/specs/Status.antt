-- The packet status word of a delivered frame, by the reason for which it was taken and its length. Assumes nothing.
use Rattle.std.specs.Prelude.{ℕ, ◌+◌, eqb}
use Rattle.std.specs.Prelude.{if◌then◌else◌}
use Rattle.reason.specs.declared.Reason.TheVariants.{Broadcast, Group}
use Rattle.reason.specs.Reason.{named}

-- 02: "Receiving passes the reason into the packet status bits that RM0006 has for broadcast and multicast, and leaves the others 0": broadcast is bit
-- 28, multicast bit 27 (RM0006 8.2.2, Figure 62; docs/DECISIONS.md, D109)
abbrev pub reason_bits : ℕ → ℕ
reason_bits reason =
    if eqb reason (named Broadcast) then 0x1000_0000 else
    if eqb reason (named Group) then 0x0800_0000 else
    0

-- 01: "the packet status word: frame length, VALID returned, other bits 0". 02: "The status word's "other bits 0" in document 01 is amended so": the
-- reason's bit, the frame length, which is under 2,048, in bits 10 to 0, and 0 in VALID, bit 16, and in every other
unfoldable pub delivered_status : ℕ → ℕ → ℕ
delivered_status reason n = reason_bits reason + n
