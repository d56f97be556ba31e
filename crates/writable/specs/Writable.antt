-- 01, "Registers": the bits of each register that a write can change. They are those of chapter 8 (docs/REGISTERS.md). Assumes nothing.
use Rattle.std.specs.Prelude.{ℕ, Option, Some, None}
use Rattle.std.specs.Int.Bits.{bit_and}
use Rattle.registers.specs.declared.Register.{Register}
use Rattle.registers.specs.declared.Register.TheVariants.{Ier, Isr, RxStart, RxNext, TxStart, TxNext, TxTimeout, Mcr, Mah, Mal, Mcha, Mcla}

-- "A write to a read-only bit is accepted and does nothing": the other bits, by register; of interrupt status those that writing 1 clears
abbrev pub writable_bits : Option Register → ℕ
writable_bits (Some Ier) = 0x92cf_82ef
writable_bits (Some Isr) = 0x92cf_82ef
writable_bits (Some RxStart) = 0x00ff_ffe5
writable_bits (Some RxNext) = 0xffff_fffd
writable_bits (Some TxStart) = 0x00ff_ff25
writable_bits (Some TxNext) = 0xffff_fffd
-- 02, Wish 9: "It is 16 bits and writable, though its cells say r"
writable_bits (Some TxTimeout) = 0x0000_ffff
writable_bits (Some Mcr) = 0xc3ff_9ffd
writable_bits (Some Mah) = 0x0000_ffff
writable_bits (Some Mal) = 0xffff_ffff
writable_bits (Some Mcha) = 0xffff_ffff
writable_bits (Some Mcla) = 0xffff_ffff
writable_bits None = 0

-- what counts of a written value
abbrev pub kept : Option Register → ℕ → ℕ
kept a v = bit_and v (writable_bits a)
