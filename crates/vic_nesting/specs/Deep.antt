-- A list of accesses that takes five requests, one over the other, of both controllers, with a slot and without, ENET's interrupt among
-- them, and ends them again: the claims about nesting do not hold for want of any. Assumes nothing.
use Rattle.std.specs.Prelude.{◌≡◌, true, List, [], ◌∷◌, ◌++◌}
use Rattle.vic_pair.specs.declared.Which.TheVariants.{Vic0, Vic1}
use Rattle.vic_pair.specs.Vics.{reset, levels, with_line}
use Rattle.vic_nesting.specs.Accesses.{Access, writes, after_all}
use Rattle.vic_nesting.specs.Taken.{begin, run}
use Rattle.vic_nesting.specs.Nested.{take, end, Nested}

-- all inputs are enabled; in VIC0 slot 2 is for input 11, ENET's, with the vector 5000h; in VIC1 slot 0 is for input 3
abbrev pub set_up : List Access
set_up =
    writes Vic0 0x010 0xffff
    ∷ writes Vic1 0x010 0xffff
    ∷ writes Vic0 0x108 0x5000
    ∷ writes Vic0 0x208 0x2b
    ∷ writes Vic1 0x200 0x23
    ∷ []

-- taken are VIC1's input 7 without a slot, its input 3 by its slot, VIC0's input 9 and its input 4 without one, and ENET's line
abbrev pub five_taken : List Access
five_taken =
    take (levels 0 0x0080)
    ∷ take (levels 0 0x0088)
    ∷ take (levels 0x0200 0x0088)
    ∷ take (levels 0x0210 0x0088)
    ∷ take (with_line (levels 0x0210 0x0088) true)
    ∷ []

-- each ended by a write of its own controller
abbrev pub five_ended : List Access
five_ended = end Vic0 0 ∷ end Vic0 0 ∷ end Vic0 0 ∷ end Vic1 0 ∷ end Vic1 0 ∷ []

pub record FiveDeep : Type 0 where
  pub taken : (run begin (set_up ++ five_taken)).ranks ≡ 2 ∷ 20 ∷ 25 ∷ 32 ∷ 55 ∷ []
  pub ended : (run begin (set_up ++ five_taken ++ five_ended)).ranks ≡ []
  pub nested : Nested (after_all reset set_up) (five_taken ++ five_ended)
