-- The calls that change the bench or what is lent, and what each does. Assumes nothing.
use Rattle.std.specs.Prelude.{ℕ, List}
use Rattle.words.specs.Words.{first, rest}
use Rattle.forms.specs.Pairs.{named}
use Rattle.commands.specs.declared.Console.{Console}
use Rattle.commands.specs.Answers.{Answer}
use Rattle.commands.specs.Commands.{output, answer_list, starts, lengths, new, lend, write, grant, frame, burst, send, run, tick, poke}
use Rattle.kinds.specs.declared.Act.{Act}
use Rattle.kinds.specs.declared.Act.TheVariants.{New, Lend, Write, Grant, Frame, Burst, Send, Run, Tick, Poke}

abbrev pub acts : Act → Console → List ℕ → ℕ → ℕ → List ℕ → Answer
acts New c m a b line = new c m a b
acts Lend c m a b line = lend c m a
acts Write c m a b line = write c m a b
acts Grant c m a b line = grant c m a
acts Frame c m a b line = frame c m (named (rest line))
acts Burst c m a b line = burst c m (named (first (rest (rest line)))) (starts b line) (lengths b line) (answer_list a)
acts Send c m a b line = send c m (output a)
acts Run c m a b line = run c m a (output b)
acts Tick c m a b line = tick c m
acts Poke c m a b line = poke c m a (named (rest (rest line)))
