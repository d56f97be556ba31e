use Rattle.capturing.proofs.Keeping.{no_frame_write, no_frame_grant, keeps_frame, keeps_sent, no_frame_cut, no_frame_other}
use Rattle.capturing.proofs.keep_found.Goals as goal

pub returns-in-RegisterWrite : goal.returns-in-RegisterWrite
returns-in-RegisterWrite c = search no_frame_write

pub returns-in-Grant : goal.returns-in-Grant
returns-in-Grant c = search no_frame_grant

pub returns-in-Frame : goal.returns-in-Frame
returns-in-Frame c = search keeps_frame

pub returns-in-Send : goal.returns-in-Send
returns-in-Send c = search keeps_sent

pub returns-in-Cut : goal.returns-in-Cut
returns-in-Cut c = search no_frame_cut

pub returns-in-NoEvent : goal.returns-in-NoEvent
returns-in-NoEvent c = search no_frame_other
