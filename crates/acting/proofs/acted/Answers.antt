-- `acting::acted` meets its contract. Assumes nothing.
use Rattle.acting.proofs.Laws.{new_called, lend_called, write_called, grant_called, frame_called, burst_called, send_called, run_called, tick_called, poke_called}
use Rattle.acting.proofs.acted.Goals as goal

pub returns-in-New : goal.returns-in-New
returns-in-New c = search new_called

pub returns-in-Lend : goal.returns-in-Lend
returns-in-Lend c = search lend_called

pub returns-in-Write : goal.returns-in-Write
returns-in-Write c = search write_called

pub returns-in-Grant : goal.returns-in-Grant
returns-in-Grant c = search grant_called

pub returns-in-Frame : goal.returns-in-Frame
returns-in-Frame c = search frame_called

pub returns-in-Burst : goal.returns-in-Burst
returns-in-Burst c = search burst_called

pub returns-in-Send : goal.returns-in-Send
returns-in-Send c = search send_called

pub returns-in-Run : goal.returns-in-Run
returns-in-Run c = search run_called

pub returns-in-Tick : goal.returns-in-Tick
returns-in-Tick c = search tick_called

pub returns-in-Poke : goal.returns-in-Poke
returns-in-Poke c = search poke_called
