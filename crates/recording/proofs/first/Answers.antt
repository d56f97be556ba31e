use Rattle.recording.proofs.LineLaws.{first_new, first_poke, first_write, first_grant, first_frame, first_send, first_other}
use Rattle.recording.proofs.first.Goals as goal

pub returns-in-New : goal.returns-in-New
returns-in-New c = search first_new

pub returns-in-Poke : goal.returns-in-Poke
returns-in-Poke c = search first_poke

pub returns-in-Write : goal.returns-in-Write
returns-in-Write c = search first_write

pub returns-in-Grant : goal.returns-in-Grant
returns-in-Grant c = search first_grant

pub returns-in-Frame : goal.returns-in-Frame
returns-in-Frame c = search first_frame

pub returns-in-Send : goal.returns-in-Send
returns-in-Send c = search first_send

pub returns-in-Other : goal.returns-in-Other
returns-in-Other c = search first_other
