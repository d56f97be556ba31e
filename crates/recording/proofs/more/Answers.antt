use Rattle.recording.proofs.DayLaws.{one_more, no_more}
use Rattle.recording.proofs.more.Goals as goal

pub returns-then-n-lt18446744073709551615 : goal.returns-then-n-lt18446744073709551615
returns-then-n-lt18446744073709551615 c = search one_more

pub returns : goal.returns
returns c = search no_more
