-- 02, Wish 8: the order of the requests of one controller. A rank is a number from 0 to 31, and the lower comes first.
-- Assumes nothing.
use Rattle.std.specs.Prelude.{ℕ, zero, suc, ◌+◌, ◌%◌, min, Bool, ◌&&◌, List, eqb, ltb}
use Rattle.std.specs.Prelude.{if◌then◌else◌}
use Rattle.rules.specs.Bit.{bit}
use Rattle.first_where.specs.First.{first_where}

-- 4.10.13: a vector control that is enabled (bit 5) names an input (bits 3 to 0)
unfoldable pub names : ℕ → ℕ → Bool
names input control = bit 5 control && eqb (control % 16) input

-- the slot of an input: the first whose control is enabled and names it, or how many slots there are, 16, where none does. 4.10.12:
-- "VecAddr0 has the highest priority, VecAddr15 has the lowest priority"
abbrev pub slot_of : List ℕ → ℕ → ℕ
slot_of controls input = first_where (names input) controls

-- "Priorities run from 0 to 15 within a controller, 0 first"; "requests without a vector come last in their controller, lower inputs
-- first"
unfoldable pub rank_in : List ℕ → ℕ → ℕ
rank_in controls input = if ltb (slot_of controls input) 16 then slot_of controls input else 16 + input

-- the lowest rank among the requests of the first n inputs, 32 where there is none: of a status word, where a raised request has
-- its input's bit
unfoldable pub lowest_among : List ℕ → ℕ → ℕ → ℕ
lowest_among controls status zero = 32
lowest_among controls status (suc n) =
    if bit n status then min (rank_in controls n) (lowest_among controls status n) else lowest_among controls status n

abbrev pub lowest_rank : List ℕ → ℕ → ℕ
lowest_rank controls status = lowest_among controls status 16
