-- The calls that change nothing, and what each says. Assumes nothing.
use Rattle.std.specs.Prelude.{ℕ, List}
use Rattle.commands.specs.declared.Console.{Console}
use Rattle.commands.specs.Commands.{lent, read_says, line_says, show_says, ring_says, peek_says, check_says, state_says, counters_say, error_says}
use Rattle.kinds.specs.declared.Query.{Query}
use Rattle.kinds.specs.declared.Query.TheVariants.{Read, Line, Show, Ring, Peek, Check, State, Counters, Error}

abbrev pub says : Query → Console → List ℕ → ℕ → ℕ → List ℕ
says Read c m a b = read_says c.device a
says Line c m a b = line_says c.device
says Show c m a b = show_says c.device (lent c m) a
says Ring c m a b = ring_says c.device (lent c m) a b
says Peek c m a b = peek_says c.device m a b
says Check c m a b = check_says c.device m
says State c m a b = state_says c.device
says Counters c m a b = counters_say c.device
says Error c m a b = error_says c
