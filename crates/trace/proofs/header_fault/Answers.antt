use mathlib.Core.Path.{◌∙◌}
use borrow.Author.Tests.{lt-ltb}
use Rattle.trace.proofs.Looked.{header_cut, header_whole}
use Rattle.trace.proofs.header_fault.Goals as goal

pub returns-then-end_of-lt-HEADER : goal.returns-then-end_of-lt-HEADER
returns-then-end_of-lt-HEADER c =
    let cut = c.if-end_of-lt-HEADER.true in
    lt-ltb _ 6 cut ∙ header_cut _ _ c.requires _ c.end_of.ensures cut

pub returns-else-end_of-lt-HEADER : goal.returns-else-end_of-lt-HEADER
returns-else-end_of-lt-HEADER c =
    header_whole _ _ c.requires _ c.end_of.ensures c.if-end_of-lt-HEADER.false _ _ c.base_of.ensures c.window_of.ensures _ c.allowed.ensures
