-- 01, "Registers": one of the two DMA engines, with its start register, its next-descriptor register, whether it runs, its place
-- in the chain, and, by 02, Wish 5, whether polling is enabled for that place. Assumes nothing.
use Rattle.std.specs.Prelude.{ℕ, Bool, false}
use Rattle.std.specs.Prelude.{if◌then◌else◌}
use Rattle.address.specs.Address.{place_of, polls}
use Rattle.engine.specs.declared.Engine.{Engine}

-- ---- one part changed, the others kept

-- an engine, part by part: every change below is made by it
abbrev pub made : ℕ → ℕ → Bool → ℕ → Bool → Engine
made start next running place polling =
    record { start = start; next = next; running = running; place = place; polling = polling }

abbrev pub with_start : Engine → ℕ → Engine
with_start e v = made v e.next e.running e.place e.polling

abbrev pub with_next : Engine → ℕ → Engine
with_next e v = made e.start v e.running e.place e.polling

abbrev pub with_running : Engine → Bool → Engine
with_running e t = made e.start e.next t e.place e.polling

-- another place, and whether polling is enabled for it
abbrev pub with_place : Engine → ℕ → Bool → Engine
with_place e p t = made e.start e.next e.running p t

-- the place that a word leads to: of the next-descriptor register at a start, of the descriptor at a move ("With next-enable
-- the engine moves to the next address"). 02, Wish 5: "The bit of the word, of register or descriptor, that led to a place, as
-- read then, holds for it."
abbrev pub led_to : Engine → ℕ → Engine
led_to e w = with_place e (place_of w) (polls w)

-- ---- reset

-- an engine at reset, by the reset values of its two registers: "The engine's place, 0 at first". No word has led there, and
-- polling is not enabled (docs/DECISIONS.md, D105)
abbrev pub engine_reset : ℕ → ℕ → Engine
engine_reset start next = made start next false 0 false

-- ---- stopping

-- "stopping by itself changes neither them nor the place": the start bits and the place stay, and with the place its polling
abbrev pub stopped : Engine → Engine
stopped e = with_running e false

-- ---- a descriptor that is not granted

-- 01, "On number 8 the engine keeps its place and looks again at the next frame", amended by 02, Wish 5: "Without it, number 8,
-- for sending too, also stops that engine; with it, it looks again."
unfoldable pub not_granted : Engine → Engine
not_granted e = if e.polling then e else stopped e
