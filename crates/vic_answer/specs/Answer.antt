-- 02, Wish 8: the IRQ answer. The ranks of both controllers run from 0 to 63, and the lower comes first. Assumes nothing.
use Rattle.std.specs.Prelude.{ℕ, ◌+◌, ◌-◌, ◌%◌, Bool, Option, Some, None, ltb, get_or}
use Rattle.std.specs.Prelude.{if◌then◌else◌}
use Rattle.vic_controller.specs.declared.Controller.{Controller}
use Rattle.vic_controller.specs.Controller.{irq_status}
use Rattle.vic_rank.specs.Rank.{lowest_rank}
use Rattle.vic_service.specs.Service.{last_taken}
use Rattle.vic_pair.specs.declared.Vics.{Vics}
use Rattle.vic_pair.specs.declared.Inputs.{Inputs}
use Rattle.vic_pair.specs.declared.Which.{Which}
use Rattle.vic_pair.specs.declared.Which.TheVariants.{Vic0, Vic1}
use Rattle.vic_answer.specs.declared.Request.{Request}

-- the lowest rank that is raised, enabled and selected for IRQ in a controller; 32 where there is none
abbrev pub raised_in : Controller → ℕ → ℕ
raised_in c inputs = lowest_rank c.controls (irq_status c inputs)

-- the same of the pair, 64 where there is none. 4.7: "interrupts mapped on VIC0 will always have higher priority than interrupts mapped
-- on VIC1 (hardwired priority)" (docs/DECISIONS.md, D117)
unfoldable pub raised_rank : Vics → Inputs → ℕ
raised_rank v i =
    if ltb (raised_in v.vic0 i.vic0) 32 then raised_in v.vic0 i.vic0 else 32 + raised_in v.vic1 i.vic1

-- the controller that a rank is of, by name and by itself
abbrev pub which_at : ℕ → Which
which_at rank = if ltb rank 32 then Vic0 else Vic1

abbrev pub controller_at : Vics → ℕ → Controller
controller_at v rank = if ltb rank 32 then v.vic0 else v.vic1

-- the vector of a rank: the vector address of its slot, or, for "requests without a vector", its controller's default vector
unfoldable pub vector_at : Controller → ℕ → ℕ
vector_at c place = if ltb place 16 then get_or c.addresses place 0 else c.default

-- the input of a rank: the one that its slot names, or, without a slot, the input that stands there
unfoldable pub input_at : Controller → ℕ → ℕ
input_at c place = if ltb place 16 then get_or c.controls place 0 % 16 else place - 16

-- an answer that is a request: its controller, its input and its vector
abbrev pub request : Which → ℕ → ℕ → Option Request
request which input vector = Some (record { which = which; input = input; vector = vector })

-- the request of a rank
abbrev pub request_at : Vics → ℕ → Option Request
request_at v rank =
    request (which_at rank) (input_at (controller_at v rank) (rank % 32)) (vector_at (controller_at v rank) (rank % 32))

-- there is a raised, enabled IRQ request "above those in service"
abbrev pub answered : Vics → Inputs → Bool
answered v i = ltb (raised_rank v i) (last_taken v.service)

-- its rank, where there is one
abbrev pub answered_rank : Vics → Inputs → Option ℕ
answered_rank v i = if answered v i then Some (raised_rank v i) else None

-- "The IRQ answer is the highest raised, enabled IRQ request above those in service, or none exactly if there is none."
unfoldable pub irq : Vics → Inputs → Option Request
irq v i = if answered v i then request_at v (raised_rank v i) else None
