-- docs/CONSOLE.md: the lines that call the interrupt controllers, each with its words. Assumes nothing.
use Rattle.std.specs.Prelude.{ℕ, not, List}
use Rattle.std.specs.Prelude.{Option, Some, None}
use Rattle.std.specs.Prelude.{if◌then◌else◌}
use Rattle.forms.specs.Numbers.{hexadecimal}
use Rattle.words.specs.Words.{characters, is, spaced, first, rest}
use Rattle.vic_script.specs.declared.VicCall.{VicCall}
use Rattle.vic_script.specs.declared.VicCommand.{VicCommand}
use Rattle.vic_script.specs.declared.VicCommand.TheVariants.{Read, Write, Inputs, Irq, Fiq}

-- a command with its numbers, if each is right
unfoldable pub given : VicCommand → Option ℕ → Option ℕ → Option ℕ → Option VicCall
given command None a b = None
given command (Some vic) None b = None
given command (Some vic) (Some a) None = None
given command (Some vic) (Some a) (Some b) = Some (record { command = command; vic = vic; a = a; b = b })

-- the place of a number that a command does not take
abbrev pub none : Option ℕ
none = Some 0

-- VIC: "`0` or `1`, an interrupt controller"
unfoldable pub vic_of : List ℕ → Option ℕ
vic_of word =
    if is word (characters "0") then Some 0 else
    if is word (characters "1") then Some 1 else
    None

-- `irq`, `fiq`
unfoldable pub alone : List ℕ → Option VicCall
alone name =
    if is name (characters "irq") then given Irq none none none else
    if is name (characters "fiq") then given Fiq none none none else
    None

-- `vwrite VIC OFFSET VALUE`: VIC, and the words behind it
unfoldable pub write_of : List ℕ → List ℕ → Option VicCall
write_of vic words = given Write (vic_of vic) (hexadecimal (first words)) (hexadecimal (rest words))

-- `vread VIC OFFSET`, `inputs VIC VALUE`, `vwrite`: a name, VIC, and the words behind them
unfoldable pub with_words : List ℕ → List ℕ → List ℕ → Option VicCall
with_words name vic words =
    if is name (characters "vread") then given Read (vic_of vic) (hexadecimal words) none else
    if is name (characters "inputs") then given Inputs (vic_of vic) (hexadecimal words) none else
    if is name (characters "vwrite") then write_of vic words else
    None

-- the call of a line. None has more than 26 characters, so that the limit of 4,096 needs no test
unfoldable pub vic_call_of : List ℕ → Option VicCall
vic_call_of line =
    if not (spaced line) then alone line else
    if not (spaced (rest line)) then None else
    with_words (first line) (first (rest line)) (rest (rest line))
