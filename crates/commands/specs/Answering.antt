-- The answer to a line. Assumes nothing.
use Rattle.std.specs.Prelude.{ℕ, ◌+◌, ◌%◌, ◌^◌, List, []}
use Rattle.std.specs.Prelude.{if◌then◌else◌}
use Rattle.enet.specs.Device.{reset as reset_bench}
use Rattle.words.specs.Words.{first, rest}
use Rattle.forms.specs.Pairs.{named}
use Rattle.script.specs.declared.Command.{Command}
use Rattle.script.specs.declared.Command.TheVariants.{New, Lend, Read, Write, Line, Grant, Frame, Burst, Send, Run, Tick, Show, Ring, Poke, Peek, Check, State, Counters, Error}
use Rattle.script.specs.Calls.{call_of}
use Rattle.script.specs.Silent.{silent}
use Rattle.commands.specs.declared.Console.{Console}
use Rattle.commands.specs.Answers.{Answer, answers}
use Rattle.commands.specs.Commands.{lent, output, answer_list, starts, lengths, new, lend, read_says, write, line_says, grant, frame, burst, send, run, tick, show_says, ring_says, poke, peek_says, check_says, state_says, counters_say, error_says}

-- "Before the first `new` the bench is that of answer 1", with no bytes lent
unfoldable pub reset : Console
reset = record { device = reset_bench; lent = 0; lines = 0 }

-- the answer to a call, by its command: its numbers are a and b, and its bytes and pairs stand in the line
abbrev pub answer_to : Command → Console → List ℕ → ℕ → ℕ → List ℕ → Answer
answer_to New c m a b line = new c m a b
answer_to Lend c m a b line = lend c m a
answer_to Read c m a b line = answers c m (read_says c.device a)
answer_to Write c m a b line = write c m a b
answer_to Line c m a b line = answers c m (line_says c.device)
answer_to Grant c m a b line = grant c m a
answer_to Frame c m a b line = frame c m (named (rest line))
answer_to Burst c m a b line = burst c m (named (first (rest (rest line)))) (starts b line) (lengths b line) (answer_list a)
answer_to Send c m a b line = send c m (output a)
answer_to Run c m a b line = run c m a (output b)
answer_to Tick c m a b line = tick c m
answer_to Show c m a b line = answers c m (show_says c.device (lent c m) a)
answer_to Ring c m a b line = answers c m (ring_says c.device (lent c m) a b)
answer_to Poke c m a b line = poke c m a (named (rest (rest line)))
answer_to Peek c m a b line = answers c m (peek_says c.device m a b)
answer_to Check c m a b line = answers c m (check_says c.device m)
answer_to State c m a b line = answers c m (state_says c.device)
answer_to Counters c m a b line = answers c m (counters_say c.device)
answer_to Error c m a b line = answers c m (error_says c)

-- "Every line is counted, from 1, also those that write nothing", in a 64-bit number
abbrev pub counted : Console → Console
counted c = record { device = c.device; lent = c.lent; lines = (c.lines + 1) % 2 ^ 64 }

unfoldable pub answer : Console → List ℕ → List ℕ → Answer
answer c m line =
    let call = call_of line in
    if silent line then answers (counted c) m [] else answer_to call.command (counted c) m call.a call.b line
