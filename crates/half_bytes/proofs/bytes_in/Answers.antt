-- `half_bytes::bytes_in` lends the table of its rule: the whole table is compared with the rule by computation. Assumes nothing.
use mathlib.Core.Path.{refl}
use Rattle.half_bytes.specs.Clocks.{clock, clocks}
use Rattle.half_bytes.specs.HalfBytes.{half_bytes}
use Rattle.half_bytes.proofs.bytes_in.Goals as goal

pub bytes_by-requires : goal.bytes_by-requires
unfolding half_bytes clocks clock
bytes_by-requires c = refl
