-- 01, "Registers": a register write. Assumes nothing.
use Rattle.std.specs.Prelude.{ℕ, ◌-◌, ◌^◌, Bool, eqb, Option, Some, None, Result}
use Rattle.std.specs.Int.Bits.{bit_and}
use Rattle.std.specs.Prelude.{if◌then◌else◌}
use Rattle.std.specs.Result.{result_unwrap_or}
use Rattle.answer.specs.declared.Refusal.{Refusal}
use Rattle.answer.specs.Refusals.{number_of}
use Rattle.filter.specs.Filter.{with_mcr, with_mah, with_mal, with_mcha, with_mcla}
use Rattle.engine_write.specs.EngineWrite.{start_written, next_written}
use Rattle.registers.specs.declared.Registers.{Registers}
use Rattle.registers.specs.declared.Change.{Change}
use Rattle.registers.specs.declared.Register.{Register}
use Rattle.registers.specs.declared.Register.TheVariants.{Ier, Isr, RxStart, RxNext, TxStart, TxNext, TxTimeout, Mcr, Mah, Mal, Mcha, Mcla}
use Rattle.registers.specs.Registers.{with_status, with_enable, with_filter, with_rx, with_tx, with_txtor}
use Rattle.registers.specs.Access.{register_at}
use Rattle.writable.specs.Writable.{kept}

-- "Status bits stay set until cleared as chapter 8 says": by writing 1, and by nothing else (docs/DECISIONS.md, D24)
abbrev pub cleared : ℕ → ℕ → ℕ
cleared isr v = bit_and isr (2 ^ 32 - 1 - v)

-- the registers with what is kept of a value. "All other writable bits .. are stored without effect", amended by 02, Wish 5: "The
-- bit of the word, of register or descriptor, that led to a place .. holds for it", which NPOL_EN does from a start on
abbrev pub stored : Registers → Option Register → ℕ → Registers
stored r (Some Ier) v = with_enable r v
stored r (Some Isr) v = with_status r (cleared r.isr v)
stored r (Some RxStart) v = with_rx r (start_written r.rx v)
stored r (Some RxNext) v = with_rx r (next_written r.rx v)
stored r (Some TxStart) v = with_tx r (start_written r.tx v)
stored r (Some TxNext) v = with_tx r (next_written r.tx v)
stored r (Some TxTimeout) v = with_txtor r v
stored r (Some Mcr) v = with_filter r (with_mcr r.filter v)
stored r (Some Mah) v = with_filter r (with_mah r.filter v)
stored r (Some Mal) v = with_filter r (with_mal r.filter v)
stored r (Some Mcha) v = with_filter r (with_mcha r.filter v)
stored r (Some Mcla) v = with_filter r (with_mcla r.filter v)
stored r None v = r

-- the registers after a write that is not refused. "A write to a read-only bit is accepted and does nothing"
abbrev pub written : Registers → Option Register → ℕ → Registers
written r a v = stored r a (kept a v)

-- "Register write: 2, 15": row 15, "next-descriptor register written while its engine runs"; whether receiving runs, and
-- sending
abbrev pub write_number : Bool → Bool → Option Register → ℕ
write_number receiving sending (Some Ier) = 0
write_number receiving sending (Some Isr) = 0
write_number receiving sending (Some RxStart) = 0
write_number receiving sending (Some RxNext) = if receiving then 15 else 0
write_number receiving sending (Some TxStart) = 0
write_number receiving sending (Some TxNext) = if sending then 15 else 0
write_number receiving sending (Some TxTimeout) = 0
write_number receiving sending (Some Mcr) = 0
write_number receiving sending (Some Mah) = 0
write_number receiving sending (Some Mal) = 0
write_number receiving sending (Some Mcha) = 0
write_number receiving sending (Some Mcla) = 0
write_number receiving sending None = 2

-- a write by its number: done, or "nothing changed"
abbrev pub written_by : Registers → Option Register → ℕ → ℕ → Change
written_by r a v n =
    if eqb n 0 then record { number = 0; registers = written r a v } else record { number = n; registers = r }

unfoldable pub write : Registers → ℕ → ℕ → Change
write r offset v = written_by r (register_at offset) v (write_number r.rx.running r.tx.running (register_at offset))

-- what the code's answer says of the registers r before it: those that the write leaves, or why it leaves them as they were
abbrev pub changed : Registers → Result Registers Refusal → Change
changed r answer = record { number = number_of answer; registers = result_unwrap_or answer r }
