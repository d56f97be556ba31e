-- The call that a line names: the console's commands, each with its words. Assumes nothing.
use Rattle.std.specs.Prelude.{ℕ, not, List, ltb, length}
use Rattle.std.specs.Prelude.{Option, Some, None}
use Rattle.std.specs.Prelude.{if◌then◌else◌}
use Rattle.script.specs.declared.Command.{Command}
use Rattle.script.specs.declared.Command.TheVariants.{
  New,
  Lend,
  Read,
  Write,
  Line,
  Grant,
  Frame,
  Burst,
  Send,
  Run,
  Tick,
  Show,
  Ring,
  Poke,
  Peek,
  Check,
  State,
  Counters,
  Error,
}
use Rattle.script.specs.declared.Call.{Call}
use Rattle.forms.specs.Numbers.{hexadecimal, decimal}
use Rattle.forms.specs.Pairs.{byte_count}
use Rattle.pair_words.specs.PairWords.{pairs_behind}
use Rattle.words.specs.Words.{characters, is, spaced, first, rest}

-- a line that is no call
abbrev pub no_call : Call
no_call = record { command = Error; a = 0; b = 0 }

-- a command with its numbers, if each is right
unfoldable pub given : Command → Option ℕ → Option ℕ → Call
given command None second = no_call
given command (Some a) None = no_call
given command (Some a) (Some b) = record { command = command; a = a; b = b }

-- the place of a number that a command does not take
abbrev pub none : Option ℕ
none = Some 0

-- 8 decimal digits: no limit of its own
abbrev pub any : ℕ
any = 99_999_999

-- a line of one word
unfoldable pub alone : List ℕ → Call
alone name =
    if is name (characters "line") then given Line none none else
    if is name (characters "tick") then given Tick none none else
    if is name (characters "check") then given Check none none else
    if is name (characters "state") then given State none none else
    if is name (characters "counters") then given Counters none none else
    no_call

-- of two
unfoldable pub with_one : List ℕ → List ℕ → Call
with_one name a =
    if is name (characters "lend") then given Lend (decimal a 65_544) none else
    if is name (characters "read") then given Read (hexadecimal a) none else
    if is name (characters "grant") then given Grant (hexadecimal a) none else
    if is name (characters "frame") then given Frame (byte_count a) none else
    if is name (characters "send") then given Send (decimal a 65_536) none else
    if is name (characters "show") then given Show (hexadecimal a) none else
    no_call

-- of three
unfoldable pub with_two : List ℕ → List ℕ → List ℕ → Call
with_two name a b =
    if is name (characters "new") then given New (hexadecimal a) (decimal b any) else
    if is name (characters "write") then given Write (hexadecimal a) (hexadecimal b) else
    if is name (characters "run") then given Run (decimal a any) (decimal b 65_536) else
    if is name (characters "ring") then given Ring (decimal a any) (hexadecimal b) else
    if is name (characters "poke") then given Poke (hexadecimal a) (byte_count b) else
    if is name (characters "peek") then given Peek (hexadecimal a) (decimal b 65_536) else
    no_call

-- of three or more: only `burst` takes more, the pairs behind its BYTES, and its ROOM is "at most 66"
unfoldable pub with_more : List ℕ → List ℕ → List ℕ → Call
with_more name a words =
    if is name (characters "burst") then given Burst (decimal a 66) (pairs_behind words) else
    if spaced words then no_call else
    with_two name a words

-- a line of at most 4,096 characters, by its words
unfoldable pub call_of : List ℕ → Call
call_of line =
    if ltb 4096 (length line) then no_call else
    if not (spaced line) then alone line else
    if not (spaced (rest line)) then with_one (first line) (rest line) else
    with_more (first line) (first (rest line)) (rest (rest line))
