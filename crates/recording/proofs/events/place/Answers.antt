use borrow.Author.Rules.{rules}
use Rattle.rules.proofs.Choices.{if_yes, if_no}
use Rattle.recording.proofs.events.place.Goals as goal

pub returns-then-day : goal.returns-then-day
returns-then-day c = search (rules, if_yes)

pub returns : goal.returns
returns c = search (rules, if_no)
