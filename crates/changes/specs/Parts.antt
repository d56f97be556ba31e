-- For each call the parts of the device that its rule names: every other part stays. Assumes nothing.
use Rattle.std.specs.Prelude.{ℕ, ◌≡◌, true, List, [], ◌∷◌, Option, Some, None}
use Rattle.std.specs.Int.Bits.{bit_or}
use Rattle.filter.specs.declared.Filter.{Filter}
use Rattle.filter.specs.Filter.{with_mcr, with_mah, with_mal, with_mcha, with_mcla}
use Rattle.engine.specs.declared.Engine.{Engine}
use Rattle.enet.specs.declared.Enet.{Enet}
use Rattle.registers.specs.declared.Register.{Register}
use Rattle.registers.specs.declared.Register.TheVariants.{Ier, Isr, RxStart, RxNext, TxStart, TxNext, TxTimeout, Mcr, Mah, Mal, Mcha, Mcla}
use Rattle.registers.specs.Registers.{tx_curr_done, tx_done, rx_curr_done, rx_done, packet_lost, tx_to}
use Rattle.registers.specs.Registers.{with_status, with_enable, with_filter, with_txtor}
use Rattle.engine_write.specs.EngineWrite.{next_written}
use Rattle.counters.specs.declared.Counters.{Counters}
use Rattle.counters.specs.Counters as counters
use Rattle.enet.specs.Device.{with_registers, with_counters, with_rx, with_tx, with_ticks}
use Rattle.registers.specs.Access.{register_at}
use Rattle.register_write.specs.Write.{cleared}
use Rattle.calls.specs.Calls.{Bench, Call, looks, register_write, grant_call, receive_call, burst_call, send_call, step_run, tick_call, call}
use Rattle.changes.specs.OneOf.{one_of}

-- ---- d is the device before, and e the one after

-- d with the status of e
abbrev pub status_of : Enet → Enet → Enet
status_of d e = with_registers d (with_status d.registers e.registers.isr)

-- d with these filter registers
abbrev pub filtered : Enet → Filter → Enet
filtered d f = with_registers d (with_filter d.registers f)

-- a register write changes its register, a start write whether its engine runs, its place and whether polling is enabled for it,
-- and a write of the time-out the count of ticks: d with these of e
abbrev pub register_of : Option Register → Enet → Enet → Enet
register_of (Some Ier) d e = with_registers d (with_enable d.registers e.registers.ier)
register_of (Some Isr) d e = status_of d e
register_of (Some RxStart) d e = with_rx d (next_written e.registers.rx d.registers.rx.next)
register_of (Some RxNext) d e = with_rx d (next_written d.registers.rx e.registers.rx.next)
register_of (Some TxStart) d e = with_tx d (next_written e.registers.tx d.registers.tx.next)
register_of (Some TxNext) d e = with_tx d (next_written d.registers.tx e.registers.tx.next)
register_of (Some TxTimeout) d e = with_ticks (with_registers d (with_txtor d.registers e.registers.txtor)) e.counters.ticks
register_of (Some Mcr) d e = filtered d (with_mcr d.registers.filter e.registers.filter.mcr)
register_of (Some Mah) d e = filtered d (with_mah d.registers.filter e.registers.filter.mah)
register_of (Some Mal) d e = filtered d (with_mal d.registers.filter e.registers.filter.mal)
register_of (Some Mcha) d e = filtered d (with_mcha d.registers.filter e.registers.filter.mcha)
register_of (Some Mcla) d e = filtered d (with_mcla d.registers.filter e.registers.filter.mcla)
register_of None d e = d

-- an engine that may have stopped or moved: its registers stay
pub record SameRegisters (x y : Engine) : Type 0 where
  pub start : y.start ≡ x.start
  pub next : y.next ≡ x.next

-- the counters of d, but those of frames delivered and lost of e
abbrev pub receive_counters : Counters → Counters → Counters
receive_counters d e = counters.made e.delivered e.lost d.sent d.ticks

-- receiving changes the status, whether its engine runs, its place and whether polling is enabled for it, and these counters
pub record ReceiveOnly (d e : Enet) : Type 0 where
  pub others : e ≡ with_counters (with_rx (status_of d e) e.registers.rx) (receive_counters d.counters e.counters)
  pub engine : SameRegisters d.registers.rx e.registers.rx

-- and so does sending, with the counter of frames sent and the count of ticks
abbrev pub send_counters : Counters → Counters → Counters
send_counters d e = counters.made d.delivered d.lost e.sent e.ticks

pub record SendOnly (d e : Enet) : Type 0 where
  pub others : e ≡ with_counters (with_tx (status_of d e) e.registers.tx) (send_counters d.counters e.counters)
  pub engine : SameRegisters d.registers.tx e.registers.tx

-- looks and grants change nothing
abbrev pub PartsKept : Call → Enet → Enet → Type 0
PartsKept (looks look) d e = e ≡ d
PartsKept (register_write address value) d e = e ≡ register_of (register_at address) d e
PartsKept (grant_call address) d e = e ≡ d
PartsKept (receive_call frame) d e = ReceiveOnly d e
PartsKept (burst_call store starts lengths answers) d e = ReceiveOnly d e
PartsKept (send_call output) d e = SendOnly d e
PartsKept (step_run output allowance) d e = SendOnly d e
-- a tick changes the status and the count of ticks
PartsKept tick_call d e = e ≡ with_ticks (status_of d e) e.counters.ticks

-- ---- the status

-- a status reached from another by setting some of these bits, one behind the other
pub data Raises (masks : List ℕ) (isr : ℕ) : ℕ → Type 0 where
  unchanged : Raises masks isr isr
  then_set : {now : ℕ} (mask : ℕ) → one_of mask masks ≡ true → Raises masks isr now → Raises masks isr (bit_or now mask)

-- "The base raises only RX_CURR_DONE, RX_DONE, TX_CURR_DONE, TX_DONE and PACKET_LOST.", amended by 02, Wish 9: a tick "sets TX_TO",
-- and no other call does
abbrev pub receive_bits : List ℕ
receive_bits = rx_curr_done ∷ rx_done ∷ packet_lost ∷ []

abbrev pub send_bits : List ℕ
send_bits = tx_curr_done ∷ tx_done ∷ []

abbrev pub tick_bits : List ℕ
tick_bits = tx_to ∷ []

-- a register write raises none: the status stays, or bits of it are cleared
pub data Clears (isr : ℕ) : ℕ → Type 0 where
  uncleared : Clears isr isr
  cleared_by : (v : ℕ) → Clears isr (cleared isr v)

abbrev pub StatusRaised : List ℕ → Bench → Call → Type 0
StatusRaised masks b c = Raises masks b.device.registers.isr (call b c).bench.device.registers.isr
