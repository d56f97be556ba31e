use Rattle.recording.proofs.LineLaws.{take_silent, take_behind, take_later, take_first}
use Rattle.recording.proofs.take.Goals as goal

pub returns-then-silent : goal.returns-then-silent
returns-then-silent c = search take_silent

pub returns-then-day-ne0 : goal.returns-then-day-ne0
returns-then-day-ne0 c = search take_behind

pub returns-then-next : goal.returns-then-next
returns-then-next c = search take_later

pub returns : goal.returns
returns c = search take_first
