-- `playback::act` meets its contract. Assumes nothing.
use Rattle.playback.proofs.Laws.{act_write, act_grant, act_frame, act_send}
use Rattle.playback.proofs.act.Goals as goal

pub returns-in-RegisterWrite : goal.returns-in-RegisterWrite
returns-in-RegisterWrite c = search act_write

pub returns-in-Grant : goal.returns-in-Grant
returns-in-Grant c = search act_grant

pub returns-in-Frame : goal.returns-in-Frame
returns-in-Frame c = search act_frame

pub returns-in-Send : goal.returns-in-Send
returns-in-Send c = search act_send
