-- docs/CONSOLE.md: the lines that the commands of the interrupt controllers write. Assumes nothing.
use Rattle.std.specs.Prelude.{ℕ, Bool, Option, Some, None, List}
use Rattle.words.specs.Words.{characters}
use Rattle.replies.specs.Replies.{said, either, numbered}
use Rattle.reports.specs.Reports.{read as read_line}
use Rattle.vic_pair.specs.declared.Which.{Which}
use Rattle.vic_pair.specs.declared.Which.TheVariants.{Vic0, Vic1}
use Rattle.vic_answer.specs.declared.Request.{Request}

-- `vread VIC OFFSET`: `vread N VALUE`
abbrev pub vread_says : ℕ → ℕ → List ℕ
vread_says n value = read_line (characters "vread") n value

-- `vwrite VIC OFFSET VALUE`: `vwrite N`
abbrev pub vwrite_says : ℕ → List ℕ
vwrite_says n = numbered (characters "vwrite") n

-- `inputs VIC VALUE`: `inputs`
abbrev pub inputs_says : List ℕ
inputs_says = said (characters "inputs")

-- `irq`: `irq none`, or `irq VIC INPUT ADDRESS`
abbrev pub irq_word : Which → List ℕ
irq_word Vic0 = characters "irq 0"
irq_word Vic1 = characters "irq 1"

unfoldable pub irq_says : Option Request → List ℕ
irq_says None = said (characters "irq none")
irq_says (Some r) = read_line (irq_word r.which) r.input r.vector

-- `fiq`: `fiq 0` or `fiq 1`
abbrev pub fiq_says : Bool → List ℕ
fiq_says high = either high (characters "fiq 1") (characters "fiq 0")
