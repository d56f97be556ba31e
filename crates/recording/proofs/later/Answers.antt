use Rattle.recording.proofs.LineLaws.{later_new, later_poke, later_write, later_grant, later_frame, later_send, later_other}
use Rattle.recording.proofs.later.Goals as goal

pub returns-in-New : goal.returns-in-New
returns-in-New c = search later_new

pub returns-in-Poke : goal.returns-in-Poke
returns-in-Poke c = search later_poke

pub returns-in-Write : goal.returns-in-Write
returns-in-Write c = search later_write

pub returns-in-Grant : goal.returns-in-Grant
returns-in-Grant c = search later_grant

pub returns-in-Frame : goal.returns-in-Frame
returns-in-Frame c = search later_frame

pub returns-in-Send : goal.returns-in-Send
returns-in-Send c = search later_send

pub returns-in-Other : goal.returns-in-Other
returns-in-Other c = search later_other
