-- The lines of a recorded day that the console has none of its own for (docs/TRACE.md), and the line of an event, which is the
-- console's. Assumes nothing.
use Rattle.std.specs.Prelude.{ℕ, List, [], ◌++◌, leb}
use Rattle.std.specs.Prelude.{if◌then◌else◌}
use Rattle.words.specs.Words.{characters}
use Rattle.fields.specs.Fields.{number, value}
use Rattle.replies.specs.Replies.{newline, numbered}
use Rattle.reports.specs.Reports.{shown}
use Rattle.event.specs.declared.Found.{Found}
use Rattle.event.specs.declared.Found.TheVariants.{RegisterWrite, Grant, Frame, Send, Cut, NoEvent}

-- a name, a value and a number: `window BASE LENGTH`
unfoldable pub placed : List ℕ → ℕ → ℕ → List ℕ
placed name v n = name ++ value v ++ number n ++ newline

-- a name and two numbers: `refused N BLOCK`, `recorded EVENTS BLOCKS`
unfoldable pub counted : List ℕ → ℕ → ℕ → List ℕ
counted name a b = name ++ number a ++ number b ++ newline

-- "or `refused N BLOCK` alone, or `refused N` where the reason is no block's": those of a block are 17 to 22
unfoldable pub refusal_says : ℕ → ℕ → List ℕ
refusal_says n block =
    if leb n 22 then counted (characters "refused") n block else numbered (characters "refused") n

-- "a line for each event as the console does (`write N`, `grant N`, `frame N`, `send N BYTES`)", with the answer and the bytes sent
unfoldable pub event_says : Found → ℕ → List ℕ → List ℕ
event_says (RegisterWrite offset v) n sent = numbered (characters "write") n
event_says (Grant address) n sent = numbered (characters "grant") n
event_says (Frame start k) n sent = numbered (characters "frame") n
event_says Send n sent = shown (characters "send") n sent
-- these are no events, and have no line: a trace that is read has none of them (`all_events` in `day_steps`)
event_says Cut n sent = []
event_says NoEvent n sent = []
