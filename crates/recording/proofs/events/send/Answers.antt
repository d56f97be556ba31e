use Rattle.recording.proofs.ByteLaws.{send_short, send_appended}
use Rattle.recording.proofs.events.send.Goals as goal

pub returns-then-room-lt1518 : goal.returns-then-room-lt1518
returns-then-room-lt1518 c = search send_short

pub returns : goal.returns
returns c = search send_appended
