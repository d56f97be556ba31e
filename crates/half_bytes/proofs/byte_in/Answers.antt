-- `half_bytes::byte_in` meets its contract: a byte leaves by the entries of its two half bytes. Assumes nothing.
use Rattle.half_bytes.proofs.HalfBytes.{by_entries}
use Rattle.half_bytes.proofs.byte_in.Goals as goal

pub returns : goal.returns
returns c = by_entries _ _ c.requires
