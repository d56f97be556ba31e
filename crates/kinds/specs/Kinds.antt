-- The console's commands in two kinds: those that ask, and those that act; and the one that makes a new bench. Assumes nothing.
use Rattle.std.specs.Prelude.{Bool, true, false}
use Rattle.script.specs.declared.Command.{Command}
use Rattle.script.specs.declared.Command.TheVariants.{New, Lend, Read, Write, Line, Grant, Frame, Burst, Send, Run, Tick, Show, Ring, Poke, Peek, Check, State, Counters, Error}
use Rattle.kinds.specs.declared.Kind.{Kind}
use Rattle.kinds.specs.declared.Kind.TheVariants.{Asks, Acts}
use Rattle.kinds.specs.declared.Query.TheVariants as query
use Rattle.kinds.specs.declared.Act.TheVariants as act

abbrev pub kind_of : Command → Kind
kind_of New = Acts act.New
kind_of Lend = Acts act.Lend
kind_of Read = Asks query.Read
kind_of Write = Acts act.Write
kind_of Line = Asks query.Line
kind_of Grant = Acts act.Grant
kind_of Frame = Acts act.Frame
kind_of Burst = Acts act.Burst
kind_of Send = Acts act.Send
kind_of Run = Acts act.Run
kind_of Tick = Acts act.Tick
kind_of Show = Asks query.Show
kind_of Ring = Asks query.Ring
kind_of Poke = Acts act.Poke
kind_of Peek = Asks query.Peek
kind_of Check = Asks query.Check
kind_of State = Asks query.State
kind_of Counters = Asks query.Counters
kind_of Error = Asks query.Error

-- the command makes a new bench
abbrev pub renews : Command → Bool
renews New = true
renews Lend = false
renews Read = false
renews Write = false
renews Line = false
renews Grant = false
renews Frame = false
renews Burst = false
renews Send = false
renews Run = false
renews Tick = false
renews Show = false
renews Ring = false
renews Poke = false
renews Peek = false
renews Check = false
renews State = false
renews Counters = false
renews Error = false
