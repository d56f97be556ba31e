-- docs/CONSOLE.md: the commands of the interrupt controllers, in its order, each under its row of the table: what it writes, and what
-- it does. Assumes nothing.
use Rattle.std.specs.Prelude.{ℕ, ◌%◌, ◌^◌, Bool, List, eqb}
use Rattle.std.specs.Prelude.{if◌then◌else◌}
use Rattle.text.specs.Text.{Text, written, put}
use Rattle.vic_pair.specs.declared.Vics.{Vics}
use Rattle.vic_pair.specs.declared.Inputs.{Inputs}
use Rattle.vic_pair.specs.declared.Which.{Which}
use Rattle.vic_pair.specs.declared.Which.TheVariants.{Vic0, Vic1}
use Rattle.vic_pair.specs.Vics.{reset as reset_vics, levels, low, with_line, fiq as fiq_high}
use Rattle.vic_answer.specs.Answer.{irq as irq_answer}
use Rattle.vic.specs.Access.{read as read_register, write as write_register}
use Rattle.vic_script.specs.declared.VicCommand.{VicCommand}
use Rattle.vic_script.specs.declared.VicCommand.TheVariants.{Read, Write, Inputs as SetInputs, Irq, Fiq}
use Rattle.vic_lines.specs.VicLines.{vread_says, vwrite_says, inputs_says, irq_says, fiq_says}
use Rattle.vic_commands.specs.declared.Controllers.{Controllers}
use Rattle.vic_commands.specs.declared.VicTold.{VicTold}

-- both controllers, and the levels that `inputs` set
abbrev pub beside : Vics → Inputs → Controllers
beside v i = record { vics = v; inputs = i }

-- `new`: "both interrupt controllers are new too, all inputs low"; before the first `new` they are so
abbrev pub reset : Controllers
reset = beside reset_vics low

-- "input 11 of controller 0 is always ENET's line"
abbrev pub levels_at : Controllers → Bool → Inputs
levels_at c line = with_line c.inputs line

-- VIC, "0 or 1"
abbrev pub which_of : ℕ → Which
which_of n = if eqb n 0 then Vic0 else Vic1

-- what a command leaves and what it writes
pub record Said : Type 0 where
  pub controllers : Controllers
  pub says : List ℕ

abbrev pub answers : Controllers → List ℕ → Said
answers c s = record { controllers = c; says = s }

-- `vread VIC OFFSET`: `vread N VALUE`. "register read"
unfoldable pub vread : Controllers → Bool → Which → ℕ → Said
vread c line w offset =
    let f = read_register c.vics (levels_at c line) w offset in
    answers (beside f.vics c.inputs) (vread_says f.number f.value)

-- `vwrite VIC OFFSET VALUE`: `vwrite N`. "register write"
unfoldable pub vwrite : Controllers → Which → ℕ → ℕ → Said
vwrite c w offset v =
    let r = write_register c.vics w offset v in answers (beside r.vics c.inputs) (vwrite_says r.number)

-- `inputs VIC VALUE`: `inputs`. "the controller's sixteen inputs have the levels of VALUE's low 16 bits"
abbrev pub levels_set : Inputs → Which → ℕ → Inputs
levels_set i Vic0 v = levels (v % 2 ^ 16) i.vic1
levels_set i Vic1 v = levels i.vic0 (v % 2 ^ 16)

unfoldable pub inputs : Controllers → Which → ℕ → Said
inputs c w v = answers (beside c.vics (levels_set c.inputs w v)) inputs_says

-- `irq`: `irq none`, or `irq VIC INPUT ADDRESS`. "the answer .. without taking it"
unfoldable pub irq : Controllers → Bool → Said
irq c line = answers c (irq_says (irq_answer c.vics (levels_at c line)))

-- `fiq`: `fiq 0` or `fiq 1`
unfoldable pub fiq : Controllers → Bool → Said
fiq c line = answers c (fiq_says (fiq_high c.vics (levels_at c line)))

-- the answer to a call, by its command; its numbers are vic, a and b, and ENET's line is as given
abbrev pub answer_to : VicCommand → Controllers → Bool → ℕ → ℕ → ℕ → Said
answer_to Read c line vic a b = vread c line (which_of vic) a
answer_to Write c line vic a b = vwrite c (which_of vic) a b
answer_to SetInputs c line vic a b = inputs c (which_of vic) a
answer_to Irq c line vic a b = irq c line
answer_to Fiq c line vic a b = fiq c line

-- an answer that was written into a lent buffer
pub record Given : Type 0 where
  pub controllers : Controllers
  pub text : Text

-- what the code's answer and the buffer at its end say together, and an answer written from `at` on
abbrev pub given : VicTold → List ℕ → Given
given r t = record { controllers = r.controllers; text = written r.end t }

abbrev pub tells : Said → List ℕ → ℕ → Given
tells s t at = record { controllers = s.controllers; text = put t at s.says }
