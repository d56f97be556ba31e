-- `fields::glyph` meets its contract. Assumes nothing.
use Rattle.fields.proofs.Laws.{glyph_digit, glyph_letter}
use Rattle.fields.proofs.glyph.Goals as goal

pub returns-then-d-lt10 : goal.returns-then-d-lt10
returns-then-d-lt10 c = glyph_digit _ c.if-d-lt10.true

pub returns-else-d-lt10 : goal.returns-else-d-lt10
returns-else-d-lt10 c = glyph_letter _ c.if-d-lt10.false
