-- 02, Wish 8: a request of the interrupt controllers by itself, and what is in service. Assumes nothing.
use Rattle.std.specs.Prelude.{ℕ, ◌+◌, ◌^◌, ◌<◌, ◌≡◌, true, false, ltb, length, get_or}
use Rattle.std.specs.Prelude.{if◌then◌else◌}
use Rattle.rules.specs.Bit.{bit}
use Rattle.vic_controller.specs.declared.Controller.{Controller}
use Rattle.vic_controller.specs.Controller.{irq_status}
use Rattle.vic_rank.specs.Rank.{slot_of, rank_in}
use Rattle.vic_pair.specs.declared.Vics.{Vics}
use Rattle.vic_pair.specs.declared.Inputs.{Inputs}
use Rattle.vic_pair.specs.declared.Which.{Which}
use Rattle.vic_pair.specs.declared.Which.TheVariants.{Vic0, Vic1}
use Rattle.vic.specs.Access.{controller_of, levels_of}

-- the lists of a pair are as long as the code's arrays, and its selections as wide as the code's
pub record Sized (v : Vics) : Type 0 where
  pub controls : (w : Which) → length (controller_of v w).controls ≡ 16
  pub service : length v.service ≡ 64
  pub selection : (w : Which) → (controller_of v w).selection < 2 ^ 16

-- a "raised, enabled IRQ request" of a controller's input n: its bit of the IRQ status (4.10.1)
pub record Requests (v : Vics) (i : Inputs) (w : Which) (n : ℕ) : Type 0 where
  pub input : n < 16
  pub raised : bit n (irq_status (controller_of v w) (levels_of i w)) ≡ true

-- its place among the requests of both: the lower is the higher one. "006 decides between the two": VIC0's come first
-- (docs/DECISIONS.md, D117)
abbrev pub rank_of : Vics → Which → ℕ → ℕ
rank_of v Vic0 n = rank_in v.vic0.controls n
rank_of v Vic1 n = 32 + rank_in v.vic1.controls n

-- its vector: its slot's address, or, without a slot, its controller's default vector
abbrev pub vector_in : Controller → ℕ → ℕ
vector_in c n = if ltb (slot_of c.controls n) 16 then get_or c.addresses (slot_of c.controls n) 0 else c.default

-- a rank is in service
abbrev pub InService : Vics → ℕ → Type 0
InService v rank = get_or v.service rank false ≡ true

-- "above those in service"
abbrev pub Above : Vics → ℕ → Type 0
Above v rank = (k : ℕ) → InService v k → rank < k
