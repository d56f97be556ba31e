-- 02, Wish 8: a register of the pair read and written, with what the current vector address takes into service and ends.
-- Assumes nothing.
use Rattle.std.specs.Prelude.{ℕ, ◌%◌, Bool, ◌&&◌, Result, Ok, Err, List, eqb, ltb, leb}
use Rattle.std.specs.Prelude.{if◌then◌else◌}
use Rattle.vic_controller.specs.declared.Controller.{Controller}
use Rattle.vic_registers.specs.Access.{register_at, access_number, value_of}
use Rattle.vic_write.specs.Write.{written}
use Rattle.vic_service.specs.Service.{last_taken, taken, ended}
use Rattle.vic_pair.specs.declared.Vics.{Vics}
use Rattle.vic_pair.specs.declared.Inputs.{Inputs}
use Rattle.vic_pair.specs.declared.Which.{Which}
use Rattle.vic_pair.specs.declared.Which.TheVariants.{Vic0, Vic1}
use Rattle.vic_pair.specs.Vics.{made}
use Rattle.vic_answer.specs.Answer.{raised_rank, answered, controller_at, vector_at}
use Rattle.answer.specs.declared.Refusal.{Refusal}
use Rattle.answer.specs.Refusals.{refusal_number}
use Rattle.vic.specs.declared.Found.{Found}

-- ---- what an access gives

-- of a register read, a number of the table, the value read, and the pair that is left; of a register write, all but the value
pub record ReadOutcome : Type 0 where
  pub number : ℕ
  pub value : ℕ
  pub vics : Vics

pub record WriteOutcome : Type 0 where
  pub number : ℕ
  pub vics : Vics

-- the same of what the code answers for a pair. 01, row 2, register not modelled: "value 0, nothing changed"
abbrev pub read_by : Vics → Result Found Refusal → ReadOutcome
read_by v (Ok f) = record { number = 0; value = f.value; vics = f.vics }
read_by v (Err refusal) = record { number = refusal_number refusal; value = 0; vics = v }

abbrev pub write_by : Vics → Result Vics Refusal → WriteOutcome
write_by v (Ok u) = record { number = 0; vics = u }
write_by v (Err refusal) = record { number = refusal_number refusal; vics = v }

-- ---- one controller of the pair

abbrev pub controller_of : Vics → Which → Controller
controller_of v Vic0 = v.vic0
controller_of v Vic1 = v.vic1

abbrev pub with_controller : Vics → Which → Controller → Vics
with_controller v Vic0 c = made c v.vic1 v.service
with_controller v Vic1 c = made v.vic0 c v.service

abbrev pub levels_of : Inputs → Which → ℕ
levels_of i Vic0 = i.vic0
levels_of i Vic1 = i.vic1

-- a rank in service came from the controller: VIC0 has 0 to 31, VIC1 32 to 63
abbrev pub came_from : Which → ℕ → Bool
came_from Vic0 rank = ltb rank 32
came_from Vic1 rank = leb 32 rank && ltb rank 64

abbrev pub with_service : Vics → List Bool → Vics
with_service v s = made v.vic0 v.vic1 s

-- ---- the current vector address, 030h of each (4.10.10)

-- the vector of a rank, as its registers stand now
abbrev pub vector_of : Vics → ℕ → ℕ
vector_of v rank = vector_at (controller_at v rank) (rank % 32)

abbrev pub found : ℕ → Vics → ReadOutcome
found value v = record { number = 0; value = value; vics = v }

-- "reading the current vector address takes the answer into service at its level then .. with none nothing changes": VIC0's, by 4.3
-- "the vector address of the interrupt is returned when the CPU reads the VIC0 Current Vector Address Register". With none it is VIC0's
-- default vector. VIC1's, which 4.3 asks to be read as well, is the vector at the rank of the last taken where that came from VIC1, and 0
-- elsewhere; it changes nothing (docs/DECISIONS.md, D118)
unfoldable pub read_vector : Vics → Inputs → Which → ReadOutcome
read_vector v i Vic0 =
    if answered v i
    then found (vector_of v (raised_rank v i)) (with_service v (taken v.service (raised_rank v i)))
    else found v.vic0.default v
read_vector v i Vic1 =
    found (if came_from Vic1 (last_taken v.service) then vector_of v (last_taken v.service) else 0) v

-- "writing it ends the last taken; with none nothing changes": 4.10.10, "write to the VIC0_VAR register (or VIC1_VAR if the interrupt
-- source is from VIC1)". So a write ends the last taken where that came from the controller written, and changes nothing elsewhere
-- (docs/DECISIONS.md, D118). The value is not stored
unfoldable pub write_vector : Vics → Which → Vics
write_vector v w =
    if came_from w (last_taken v.service) then with_service v (ended v.service (last_taken v.service)) else v

-- ---- a register read and written

-- 01, row 2, register not modelled: "value 0, nothing changed"
unfoldable pub read : Vics → Inputs → Which → ℕ → ReadOutcome
read v i w offset =
    if eqb offset 0x030 then read_vector v i w else
    record {
      number = access_number (register_at offset);
      value = value_of (controller_of v w) (levels_of i w) (register_at offset);
      vics = v;
    }

unfoldable pub write : Vics → Which → ℕ → ℕ → WriteOutcome
write v w offset value =
    if eqb offset 0x030 then record { number = 0; vics = write_vector v w } else
    record {
      number = access_number (register_at offset);
      vics = with_controller v w (written (controller_of v w) (register_at offset) value);
    }
