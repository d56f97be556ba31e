-- 01, "Registers": the two registers of an engine written. Bit positions are chapter 8's (docs/REGISTERS.md). Assumes nothing.
use Rattle.std.specs.Prelude.{ℕ, Bool, true, not}
use Rattle.rules.specs.Bit.{bit}
use Rattle.std.specs.Prelude.{if◌then◌else◌}
use Rattle.engine.specs.declared.Engine.{Engine}
use Rattle.engine.specs.Engine.{with_start, with_next, with_running, led_to, stopped}

-- DMA_EN, bit 0, and START_FETCH, bit 2, of a start register
abbrev pub dma_enabled : ℕ → Bool
dma_enabled v = bit 0 v

abbrev pub start_fetch : ℕ → Bool
start_fetch v = bit 2 v

-- "An engine runs .. from the address in its next-descriptor register". 02, Wish 5: "The bit of the word, of register or descriptor,
-- that led to a place, as read then, holds for it."
abbrev pub started : Engine → Engine
started e = with_running (led_to e e.next) true

-- a start write: "An engine runs after a start write with both DMA enable and start fetch set .. Clearing DMA enable stops
-- it." ".. a start write to a running engine that keeps DMA enable leaves its place", and so the polling bit that holds for it.
-- "Both start bits read as last written"
unfoldable pub start_written : Engine → ℕ → Engine
start_written e v =
    if not (dma_enabled v) then stopped (with_start e v) else
    if e.running then with_start e v else
    if start_fetch v then started (with_start e v) else
    with_start e v

-- "the next-descriptor register holds what was last written", and the place is kept apart with its polling bit
abbrev pub next_written : Engine → ℕ → Engine
next_written e v = with_next e v
