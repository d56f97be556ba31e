-- docs/TRACE.md, "record": a recorded day of a console script, line by line. Assumes nothing.
use Rattle.std.specs.Prelude.{ℕ, not, ◌||◌, List, eqb}
use Rattle.std.specs.Prelude.{if◌then◌else◌}
use Rattle.event.specs.Event.{register_write, grant, frame, bytes_of}
use Rattle.words.specs.Words.{rest}
use Rattle.forms.specs.Pairs.{named}
use Rattle.script.specs.declared.Call.{Call}
use Rattle.script.specs.declared.Command.{Command}
use Rattle.script.specs.declared.Command.TheVariants as command
use Rattle.script.specs.Calls.{call_of}
use Rattle.script.specs.Silent.{silent}
use Rattle.recording.specs.declared.Day.{Day}
use Rattle.recording.specs.declared.steps.Step.{Step}
use Rattle.recording.specs.declared.steps.Step.TheVariants.{New, Poke, Write, Grant, Frame, Send, Other}
use Rattle.recording.specs.Day.{counted, failed, new}
use Rattle.recording.specs.Bytes.{Poked, Listed, poke, append, send_into}

-- the day, the memory image and the event list
pub record Recorded : Type 0 where
  pub day : Day
  pub image : List ℕ
  pub list : List ℕ

abbrev pub recorded : Day → List ℕ → List ℕ → Recorded
recorded d m l = record { day = d; image = m; list = l }

abbrev pub with_image : Poked → List ℕ → Recorded
with_image p l = recorded p.day p.image l

abbrev pub with_list : Listed → List ℕ → Recorded
with_list a m = recorded a.day m a.list

-- the lines of a script, by their commands; "any other line" is wrong
abbrev pub step_of : Command → Step
step_of command.New = New
step_of command.Lend = Other
step_of command.Read = Other
step_of command.Write = Write
step_of command.Line = Other
step_of command.Grant = Grant
step_of command.Frame = Frame
step_of command.Burst = Other
step_of command.Send = Send
step_of command.Run = Other
step_of command.Tick = Other
step_of command.Show = Other
step_of command.Ring = Other
step_of command.Poke = Poke
step_of command.Peek = Other
step_of command.Check = Other
step_of command.State = Other
step_of command.Counters = Other
step_of command.Error = Other

-- the first of them, with its numbers
abbrev pub first : Step → Day → ℕ → ℕ → Day
first New d a b = new d a b
first Poke d a b = failed d
first Write d a b = failed d
first Grant d a b = failed d
first Frame d a b = failed d
first Send d a b = failed d
first Other d a b = failed d

-- and those behind it: "any `poke` into the window, which write the image"; "any of `write`, `grant`, `frame`, and `send` with a
-- room of 1,518 or more: the events"
abbrev pub later : Step → Day → List ℕ → List ℕ → ℕ → ℕ → List ℕ → Recorded
later New d m l a b line = recorded (failed d) m l
later Poke d m l a b line = with_image (poke d m a (named (rest (rest line)))) l
later Write d m l a b line = with_list (append d l (bytes_of (register_write a b))) m
later Grant d m l a b line = with_list (append d l (bytes_of (grant a))) m
later Frame d m l a b line = with_list (append d l (bytes_of (frame (named (rest line))))) m
later Send d m l a b line = with_list (send_into d l a) m
later Other d m l a b line = recorded (failed d) m l

unfoldable pub called : Day → List ℕ → List ℕ → Call → List ℕ → Recorded
called d m l call line =
    let step = step_of call.command in
    if d.begun then later step d m l call.a call.b line else recorded (first step d call.a call.b) m l

-- "An empty line, and a line that begins with `#`, say nothing." Nor does any line behind a wrong one
unfoldable pub take : Day → List ℕ → List ℕ → List ℕ → Recorded
take d m l line =
    if silent line || not (eqb d.wrong 0) then recorded (counted d) m l else called (counted d) m l (call_of line) line
