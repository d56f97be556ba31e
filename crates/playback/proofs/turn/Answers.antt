-- `playback::turn` meets its contract. Assumes nothing.
use Rattle.playback.proofs.Laws.{turn_is}
use Rattle.playback.proofs.turn.Goals as goal

pub returns : goal.returns
returns c = search turn_is
