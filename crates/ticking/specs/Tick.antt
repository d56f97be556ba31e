-- 02, Wish 9: "a tick call for the send time-out", over the window's base and length, the registers, the count and the lent
-- memory. Assumes nothing.
use Rattle.std.specs.Prelude.{ℕ, ◌+◌, Bool, not, ◌&&◌, List, eqb, ltb}
use Rattle.std.specs.Prelude.{if◌then◌else◌}
use Rattle.window.specs.Window.{lent, in_window}
use Rattle.packet_status.specs.PacketStatus.{granted}
use Rattle.registers.specs.declared.Registers.{Registers}
use Rattle.registers.specs.Registers.{raised, tx_to}
use Rattle.ticking.specs.declared.Ticked.{Ticked}

-- a tick's number, the registers and the count that it leaves
abbrev pub leaves : ℕ → Registers → ℕ → Ticked
leaves n r count = record { number = n; registers = r; count = count }

-- "if sending runs and its descriptor is in the window and granted"
unfoldable pub stalled : ℕ → ℕ → Registers → List ℕ → Bool
stalled base window r m = r.tx.running && in_window base window r.tx.place 16 && granted base m r.tx.place

-- "A tick .. adds one to a count"; "A tick that counts above the value sets TX_TO and starts it again at 0"
unfoldable pub counted : Registers → ℕ → Ticked
counted r count = if ltb r.txtor (count + 1) then leaves 0 (raised r tx_to) 0 else leaves 0 r (count + 1)

-- "A tick (refused only by 11)": row 11, "nothing changed". "value 0 keeps it at 0"; "else clears it"
unfoldable pub tick : ℕ → ℕ → Registers → ℕ → List ℕ → Ticked
tick base window r count m =
    if not (lent window m) then leaves 11 r count else
    if eqb r.txtor 0 then leaves 0 r 0 else
    if stalled base window r m then counted r count else
    leaves 0 r 0

-- ".. value 0 keeps it at 0, from the write on": the count after a register write, by its number, the offset written and the
-- value that the time-out register, "offset 48h", then has. Any other write leaves it
unfoldable pub after_write : ℕ → ℕ → ℕ → ℕ → ℕ
after_write n offset value count = if eqb n 0 && eqb offset 0x48 && eqb value 0 then 0 else count
