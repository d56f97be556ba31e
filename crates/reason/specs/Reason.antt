-- 02, "Say why a frame was taken": what the address rule answers, by number. Assumes nothing.
use Rattle.std.specs.Prelude.{ℕ, Bool, not, eqb, Option, Some, None}
use Rattle.reason.specs.declared.Reason.{Reason}
use Rattle.reason.specs.declared.Reason.TheVariants.{Own, Broadcast, Group, ReceiveAll}

-- "The address rule should answer own, broadcast, group or receive-all, .. and not only yes." "The C function reports it as 1 to 4 in the order
-- named, .."
abbrev pub named : Reason → ℕ
named Own = 1
named Broadcast = 2
named Group = 3
named ReceiveAll = 4

-- ".. 0 for not taken."
abbrev pub reason_number : Option Reason → ℕ
reason_number None = 0
reason_number (Some reason) = named reason

-- what document 01 calls to accept: any reason, "0 for not taken"
abbrev pub taken : ℕ → Bool
taken reason = not (eqb reason 0)
