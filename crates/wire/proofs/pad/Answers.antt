use mathlib.Core.Path.{refl}
use native.Mathlib.Omega.{arith}
use lib.ListN.{length-take}
use Rattle.wire.proofs.Laws.{padding, no_padding}
use Rattle.wire.proofs.pad.Goals as goal

pub slice_bounds-store-length : goal.slice_bounds-store-length
slice_bounds-store-length c = simp length-take (omega arith)

pub returns-then-n-lt60 : goal.returns-then-n-lt60
returns-then-n-lt60 c = padding _ _ _ 60 refl c.store.ensures

pub returns-else-n-lt60 : goal.returns-else-n-lt60
returns-else-n-lt60 c = search no_padding
