use Rattle.day_reports.proofs.Laws.{refused_block, refused_alone}
use Rattle.day_reports.proofs.refused.Goals as goal

pub returns-then-number-le-EVENT : goal.returns-then-number-le-EVENT
returns-then-number-le-EVENT c = search refused_block

pub returns : goal.returns
returns c = search refused_alone
