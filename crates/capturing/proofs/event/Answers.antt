use Rattle.capturing.proofs.Turns.{event_captured}
use Rattle.capturing.proofs.event.Goals as goal

pub returns : goal.returns
returns c =
    event_captured c.args.day _ _ _ _ _ _ _ _ _ _ _ _ _ c.at-found.ensures c.act-acted.ensures c.part-sent.ensures c.keep_found-kept.ensures
